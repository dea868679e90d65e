-- Along a list of steps a pass makes one call after the other.
use Rattle.std.proofs.Common.{◌≡◌, ◌≢◌, ℕ, zero, suc, ◌==◌, Bool, true, false, Some, List, [], ◌∷◌, ◌++◌, refl, sym, ap, ◌∙◌, subst, append_assoc, append-nil, inl, inr, ◌⊎◌}
use Rattle.std.specs.Prelude.{replicate, slice_get, if◌then◌else◌}
use Rattle.std.proofs.lemmas.Bool.{eq-eqb, ne_eqb}
use Rattle.smc_shape.specs.Layout.{Layout}
use Rattle.smc_core.specs.declared.call.Call.{Call}
use Rattle.smc_core.specs.declared.call.Choice.{Choice}
use Rattle.smc_core.specs.declared.call.Choice.TheVariants.{Start, Go}
use Rattle.smc_core.specs.declared.local.Local.{Local}
use Rattle.smc_core.specs.declared.phase.Phase.{Phase}
use Rattle.smc_core.specs.declared.phase.Phase.TheVariants as phase
use Rattle.smc_core.specs.Local.{fresh, after}
use Rattle.smc_core.specs.Machine.{Machine, Steps, Leads, started}
use Rattle.smc_core.specs.Row.{row_shows}
use Rattle.smc_rules.proofs.CarryLaws.{by_pass, get-set_same, get-set_other, some-same}
use Rattle.smc_aside.specs.Makes.{own_choices}
use Rattle.smc_aside.proofs.StepLists.{leads-join}
use Rattle.smc_trace.specs.Trace.{CallEnd, IsTrace}
use Rattle.smc_trace.proofs.TraceSteps.{trace-one}
use Rattle.smc_calls.specs.Calls.{HasMade, MakesCall, MakesCalls, Rests}
use Rattle.smc_calls.specs.Laws.{Between, CallsAreMade, IsMadeAlong, Moment, StretchIsMade}
use Rattle.smc_calls.proofs.CallsGoOn.{InCall}
use Rattle.smc_calls.proofs.OnSteps.{IsIn, HasEnded, after-start, after-go, idle-goes_not, busy-starts_not}

-- what a pass chooses in one list of steps and then in another
pub own-append : (pass : ℕ) (steps later : List (ℕ × Choice)) → own_choices pass (steps ++ later) ≡ own_choices pass steps ++ own_choices pass later
own-append pass [] later = refl
own-append pass (step ∷ steps) later = go (step.0 == pass) (own-append pass steps later)
  where
    go : (b : Bool) → own_choices pass (steps ++ later) ≡ own_choices pass steps ++ own_choices pass later
        → (if b then step.1 ∷ own_choices pass (steps ++ later) else own_choices pass (steps ++ later)) ≡ (if b then step.1 ∷ own_choices pass steps else own_choices pass steps) ++ own_choices pass later
    go true rest = ap (λ (k : List Choice). step.1 ∷ k) rest
    go false rest = rest

pub own-one : (pass : ℕ) (choice : Choice) → own_choices pass ((pass, choice) ∷ []) ≡ choice ∷ []
own-one pass choice = ap (λ (b : Bool). if b then choice ∷ [] else []) (eq-eqb pass pass refl)

pub own-other : (pass by : ℕ) (choice : Choice) → by ≢ pass → own_choices pass ((by, choice) ∷ []) ≡ []
own-other pass by choice apart = ap (λ (b : Bool). if b then choice ∷ [] else []) (ne_eqb by pass apart)

goes-more : (more : ℕ) → replicate more Go ++ Go ∷ [] ≡ replicate (suc more) Go
goes-more zero = refl
goes-more (suc more) = ap (λ (k : List Choice). Go ∷ k) (goes-more more)

module _ (shape : Layout) (pass : ℕ) where
  one-step : (m : Machine) (by : ℕ) (choice : Choice) (next : Machine) → Steps shape m by choice next → Leads shape m ((by, choice) ∷ []) next
  one-step m by choice next step = (next, step, refl)

  -- it has made no more and no less after a step of another one
  made-other : (m : Machine) (by : ℕ) (choice : Choice) (next : Machine) (calls : List CallEnd) → Steps shape m by choice next → by ≢ pass → HasMade pass m calls → HasMade pass next calls
  made-other m by choice next calls step apart has = record {
    local = has.local;
    here = subst (λ (k : Machine). slice_get k.locals pass ≡ Some has.local) (sym step.leads)
        (get-set_other m.locals by pass (after shape by step.local choice step.told (row_shows shape step.offered.op m.row)) (λ e. apart (sym e)) ∙ has.here);
    idle = has.idle;
    trace = has.trace;
  }

  -- what it has made at the two ends
  pub made-first : (before ends : List CallEnd) (m : Machine) (steps : List (ℕ × Choice)) (last : Machine) → MakesCalls shape pass before ends m steps last → HasMade pass m before
  made-first before [] m steps last makes = makes.0
  made-first before (end ∷ ends) m steps last (during, later, next, splits, makes, rest) = makes.first

  pub made-last : (before ends : List CallEnd) (m : Machine) (steps : List (ℕ × Choice)) (last : Machine) → MakesCalls shape pass before ends m steps last → HasMade pass last (before ++ ends)
  made-last before [] m steps last makes = subst (HasMade pass last) (sym (append-nil before)) (subst (λ (k : Machine). HasMade pass k before) makes.1 makes.0)
  made-last before (end ∷ ends) m steps last (during, later, next, splits, makes, rest) =
      subst (HasMade pass last) (append_assoc before (end ∷ []) ends) (made-last (before ++ end ∷ []) ends next later last rest)

  pub makes-leads : (before ends : List CallEnd) (m : Machine) (steps : List (ℕ × Choice)) (last : Machine) → MakesCalls shape pass before ends m steps last → Leads shape m steps last
  makes-leads before [] m steps last makes = subst (λ (k : List (ℕ × Choice)). Leads shape m k last) (sym makes.2) makes.1
  makes-leads before (end ∷ ends) m steps last (during, later, next, splits, makes, rest) =
      subst (λ (k : List (ℕ × Choice)). Leads shape m k last) (sym splits) (leads-join shape m next last during later makes.leads (makes-leads (before ++ end ∷ []) ends next later last rest))

  -- a step of another one more
  rests-other : (before : List CallEnd) (m : Machine) (steps : List (ℕ × Choice)) (last : Machine) (by : ℕ) (choice : Choice) (beyond : Machine)
      → Rests shape pass before m steps last → Steps shape last by choice beyond → by ≢ pass → Rests shape pass before m (steps ++ (by, choice) ∷ []) beyond
  rests-other before m steps last by choice beyond rests step apart = record {
    leads = leads-join shape m last beyond steps ((by, choice) ∷ []) rests.leads (one-step last by choice beyond step);
    first = rests.first;
    then = made-other last by choice beyond before step apart rests.then;
    choices = own-append pass steps ((by, choice) ∷ []) ∙ (ap (λ (k : List Choice). k ++ own_choices pass ((by, choice) ∷ [])) rests.choices ∙ own-other pass by choice apart);
  }

  -- one call more
  makes-more : (before ends : List CallEnd) (end : CallEnd) (m : Machine) (steps : List (ℕ × Choice)) (last : Machine) (during : List (ℕ × Choice)) (beyond : Machine)
      → MakesCalls shape pass before ends m steps last → MakesCall shape pass (before ++ ends) end last during beyond
      → MakesCalls shape pass before (ends ++ end ∷ []) m (steps ++ during) beyond
  makes-more before [] end m steps last during beyond makes one =
      let call : MakesCall shape pass before end m during beyond =
      subst (λ (k : Machine). MakesCall shape pass before end k during beyond) (sym makes.1) (subst (λ (k : List CallEnd). MakesCall shape pass k end last during beyond) (append-nil before) one) in
      (during, [], beyond, ap (λ (k : List (ℕ × Choice)). k ++ during) makes.2 ∙ sym (append-nil during), call, (call.then, refl, refl))
  makes-more before (first ∷ ends) end m steps last during beyond (front, later, next, splits, makes, rest) one = (
    front,
    later ++ during,
    next,
    ap (λ (k : List (ℕ × Choice)). k ++ during) splits ∙ append_assoc front later during,
    makes,
    makes-more (before ++ first ∷ []) ends end next later last during beyond rest
        (subst (λ (k : List CallEnd). MakesCall shape pass k end last during beyond) (sym (append_assoc before (first ∷ []) ends)) one),
  )

  -- two stretches of calls
  pub record Parts (before s t : List CallEnd) (m : Machine) (steps : List (ℕ × Choice)) (last : Machine) : Type 0 where
    pub front : List (ℕ × Choice)
    pub back : List (ℕ × Choice)
    pub middle : Machine
    pub splits : steps ≡ front ++ back
    pub makes : MakesCalls shape pass before s m front middle
    pub rest : MakesCalls shape pass (before ++ s) t middle back last

  -- one stretch of calls, then the other
  pub makes-parts : (before s t : List CallEnd) (m : Machine) (steps : List (ℕ × Choice)) (last : Machine) → MakesCalls shape pass before (s ++ t) m steps last → Parts before s t m steps last
  makes-parts before [] t m steps last makes =
      let here : HasMade pass m before = made-first before t m steps last makes in record {
        front = [];
        back = steps;
        middle = m;
        splits = refl;
        makes = (here, refl, refl);
        rest = subst (λ (k : List CallEnd). MakesCalls shape pass k t m steps last) (sym (append-nil before)) makes;
      }
  makes-parts before (end ∷ s) t m steps last (during, later, next, splits, makes, rest) =
      let parts : Parts (before ++ end ∷ []) s t next later last = makes-parts (before ++ end ∷ []) s t next later last rest in record {
        front = during ++ parts.front;
        back = parts.back;
        middle = parts.middle;
        splits = splits ∙ (ap (λ (k : List (ℕ × Choice)). during ++ k) parts.splits ∙ sym (append_assoc during parts.front parts.back));
        makes = (during, parts.front, next, refl, makes, parts.makes);
        rest = subst (λ (k : List CallEnd). MakesCalls shape pass k t parts.middle parts.back last) (append_assoc before (end ∷ []) s) parts.rest;
      }

  -- a call is in progress, behind these
  record Making (first : Machine) (steps : List (ℕ × Choice)) (m : Machine) : Type 0 where
    calls : List CallEnd
    call : Call
    earlier : List (ℕ × Choice)
    during : List (ℕ × Choice)
    middle : Machine
    splits : steps ≡ earlier ++ during
    made : MakesCalls shape pass [] calls first earlier middle
    leads : Leads shape middle during m
    more : ℕ
    choices : own_choices pass during ≡ Start call ∷ replicate more Go
    local : Local
    here : slice_get m.locals pass ≡ Some local
    is_in : IsIn call calls local

  -- no call is in progress
  record Made (first : Machine) (steps : List (ℕ × Choice)) (m : Machine) : Type 0 where
    calls : List CallEnd
    busy : List (ℕ × Choice)
    rest : List (ℕ × Choice)
    middle : Machine
    splits : steps ≡ busy ++ rest
    made : MakesCalls shape pass [] calls first busy middle
    rests : Rests shape pass calls middle rest m

  abbrev Stands : Machine → List (ℕ × Choice) → Machine → Type 0
  Stands first steps m = Made first steps m ⊎ Making first steps m

  -- a step of another one
  past-other : (first : Machine) (steps : List (ℕ × Choice)) (m : Machine) (by : ℕ) (choice : Choice) (next : Machine) → Stands first steps m → Steps shape m by choice next → by ≢ pass
      → Stands first (steps ++ (by, choice) ∷ []) next
  past-other first steps m by choice next (inl stands) step apart =
      inl (record {
        calls = stands.calls;
        busy = stands.busy;
        rest = stands.rest ++ (by, choice) ∷ [];
        middle = stands.middle;
        splits = ap (λ (k : List (ℕ × Choice)). k ++ (by, choice) ∷ []) stands.splits ∙ append_assoc stands.busy stands.rest ((by, choice) ∷ []);
        made = stands.made;
        rests = rests-other stands.calls stands.middle stands.rest m by choice next stands.rests step apart;
      })
  past-other first steps m by choice next (inr stands) step apart = inr (record {
    calls = stands.calls;
    call = stands.call;
    earlier = stands.earlier;
    during = stands.during ++ (by, choice) ∷ [];
    middle = stands.middle;
    splits = ap (λ (k : List (ℕ × Choice)). k ++ (by, choice) ∷ []) stands.splits ∙ append_assoc stands.earlier stands.during ((by, choice) ∷ []);
    made = stands.made;
    leads = leads-join shape stands.middle m next stands.during ((by, choice) ∷ []) stands.leads (one-step m by choice next step);
    more = stands.more;
    choices = own-append pass stands.during ((by, choice) ∷ []) ∙ (ap (λ (k : List Choice). own_choices pass stands.during ++ k) (own-other pass by choice apart) ∙ (append-nil (own_choices pass stands.during) ∙ stands.choices));
    local = stands.local;
    here = subst (λ (k : Machine). slice_get k.locals pass ≡ Some stands.local) (sym step.leads)
        (get-set_other m.locals by pass (after shape by step.local choice step.told (row_shows shape step.offered.op m.row)) (λ e. apart (sym e)) ∙ stands.here);
    is_in = stands.is_in;
  })

  -- a step of its own: what comes after it, in a call that has so come to this moment
  after-own : (first : Machine) (calls : List CallEnd) (call : Call) (earlier during : List (ℕ × Choice)) (middle next : Machine) (more : ℕ) (l : Local)
      → MakesCalls shape pass [] calls first earlier middle → Leads shape middle during next → own_choices pass during ≡ Start call ∷ replicate more Go
      → slice_get next.locals pass ≡ Some l → IsIn call calls l ⊎ HasEnded call calls l → (steps : List (ℕ × Choice)) → steps ≡ earlier ++ during → Stands first steps next
  after-own first calls call earlier during middle next more l made leads choices here (inl goes) steps splits = inr (record {
    calls = calls;
    call = call;
    earlier = earlier;
    during = during;
    middle = middle;
    splits = splits;
    made = made;
    leads = leads;
    more = more;
    choices = choices;
    local = l;
    here = here;
    is_in = goes;
  })
  after-own first calls call earlier during middle next more l made leads choices here (inr ended) steps splits =
      let ended_so : HasMade pass next (calls ++ ended.end ∷ []) = record { local = l; here = here; idle = ended.idle; trace = ended.trace } in
      inl (record {
        calls = calls ++ ended.end ∷ [];
        busy = steps;
        rest = [];
        middle = next;
        splits = sym (append-nil steps);
        made = subst (λ (k : List (ℕ × Choice)). MakesCalls shape pass [] (calls ++ ended.end ∷ []) first k next) (sym splits)
            (makes-more [] calls ended.end first earlier middle during next made (record {
              call = call;
              is_end = ended.is_end;
              leads = leads;
              first = made-last [] calls first earlier middle made;
              then = ended_so;
              more = more;
              choices = choices;
            }));
        rests = record { leads = refl; first = ended_so; then = ended_so; choices = refl };
      })

  -- where the pass is after its step
  own-here : (m : Machine) (choice : Choice) (next : Machine) (step : Steps shape m pass choice next)
      → slice_get next.locals pass ≡ Some (after shape pass step.local choice step.told (row_shows shape step.offered.op m.row))
  own-here m choice next step =
      subst (λ (k : Machine). slice_get k.locals pass ≡ Some (after shape pass step.local choice step.told (row_shows shape step.offered.op m.row))) (sym step.leads)
      (get-set_same m.locals pass step.local (after shape pass step.local choice step.told (row_shows shape step.offered.op m.row)) step.here)

  past-own : (first : Machine) (steps : List (ℕ × Choice)) (m : Machine) (choice : Choice) (next : Machine) → Stands first steps m → Steps shape m pass choice next
      → Stands first (steps ++ (pass, choice) ∷ []) next
  past-own first steps m (Start c) next (inl stands) step =
      let has : HasMade pass m stands.calls = stands.rests.then in
      let same : has.local ≡ step.local = some-same has.local step.local (sym has.here ∙ step.here) in
      let l' : Local = after shape pass step.local (Start c) step.told (row_shows shape step.offered.op m.row) in
      let out : IsIn c stands.calls l' ⊎ HasEnded c stands.calls l' =
      after-start shape pass step.local step.offered step.told (row_shows shape step.offered.op m.row) stands.calls c
      (subst (λ (k : Local). k.stand.phase ≡ phase.Idle) same has.idle) (subst (λ (k : Local). IsTrace k stands.calls) same has.trace) step.offers in
      after-own first stands.calls c stands.busy (stands.rest ++ (pass, Start c) ∷ []) stands.middle next 0 l' stands.made
      (leads-join shape stands.middle m next stands.rest ((pass, Start c) ∷ []) stands.rests.leads (one-step m pass (Start c) next step))
      (own-append pass stands.rest ((pass, Start c) ∷ []) ∙ (ap (λ (k : List Choice). k ++ own_choices pass ((pass, Start c) ∷ [])) stands.rests.choices ∙ own-one pass (Start c)))
      (own-here m (Start c) next step) out (steps ++ (pass, Start c) ∷ [])
      (ap (λ (k : List (ℕ × Choice)). k ++ (pass, Start c) ∷ []) stands.splits ∙ append_assoc stands.busy stands.rest ((pass, Start c) ∷ []))
  past-own first steps m Go next (inl stands) step =
      let has : HasMade pass m stands.calls = stands.rests.then in
      let same : has.local ≡ step.local = some-same has.local step.local (sym has.here ∙ step.here) in
      absurd (idle-goes_not shape pass step.local step.offered step.told (row_shows shape step.offered.op m.row) stands.calls step.local.stand.phase
      (subst (λ (k : Local). k.stand.phase ≡ phase.Idle) same has.idle) step.offers)
  past-own first steps m (Start c) next (inr stands) step =
      let same : stands.local ≡ step.local = some-same stands.local step.local (sym stands.here ∙ step.here) in
      absurd (busy-starts_not shape pass step.local step.offered step.told (row_shows shape step.offered.op m.row) stands.calls stands.call c (subst (λ (k : Local). IsIn stands.call stands.calls k) same stands.is_in) step.offers)
  past-own first steps m Go next (inr stands) step =
      let same : stands.local ≡ step.local = some-same stands.local step.local (sym stands.here ∙ step.here) in
      let l' : Local = after shape pass step.local Go step.told (row_shows shape step.offered.op m.row) in
      let out : IsIn stands.call stands.calls l' ⊎ HasEnded stands.call stands.calls l' =
      after-go shape pass step.local step.offered step.told (row_shows shape step.offered.op m.row) stands.calls stands.call (subst (λ (k : Local). IsIn stands.call stands.calls k) same stands.is_in) step.offers in
      let chosen : own_choices pass (stands.during ++ (pass, Go) ∷ []) ≡ Start stands.call ∷ replicate (suc stands.more) Go =
      own-append pass stands.during ((pass, Go) ∷ []) ∙ (ap (λ (k : List Choice). k ++ own_choices pass ((pass, Go) ∷ [])) stands.choices
      ∙ (ap (λ (k : List Choice). Start stands.call ∷ (replicate stands.more Go ++ k)) (own-one pass Go) ∙ ap (λ (k : List Choice). Start stands.call ∷ k) (goes-more stands.more))) in
      after-own first stands.calls stands.call stands.earlier (stands.during ++ (pass, Go) ∷ []) stands.middle next (suc stands.more) l' stands.made
      (leads-join shape stands.middle m next stands.during ((pass, Go) ∷ []) stands.leads (one-step m pass Go next step)) chosen
      (own-here m Go next step) out (steps ++ (pass, Go) ∷ [])
      (ap (λ (k : List (ℕ × Choice)). k ++ (pass, Go) ∷ []) stands.splits ∙ append_assoc stands.earlier stands.during ((pass, Go) ∷ []))

  past-step : (first : Machine) (steps : List (ℕ × Choice)) (m : Machine) (by : ℕ) (choice : Choice) (next : Machine) → Stands first steps m → Steps shape m by choice next
      → Stands first (steps ++ (by, choice) ∷ []) next
  past-step first steps m by choice next stands step =
      by_pass pass by
      (λ same. subst (λ (k : ℕ). Stands first (steps ++ (k, choice) ∷ []) next) same
      (past-own first steps m choice next stands (subst (λ (k : ℕ). Steps shape m k choice next) (sym same) step)))
      (λ apart. past-other first steps m by choice next stands step (λ e. apart (sym e)))

  -- so it stands after every list of steps
  stands-along : (first : Machine) (steps : List (ℕ × Choice)) (m : Machine) (later : List (ℕ × Choice)) (last : Machine) → Stands first steps m → Leads shape m later last
      → Stands first (steps ++ later) last
  stands-along first steps m [] last stands leads =
      subst (λ (k : List (ℕ × Choice)). Stands first k last) (sym (append-nil steps)) (subst (λ (k : Machine). Stands first steps k) leads stands)
  stands-along first steps m ((by, choice) ∷ later) last stands (next, step, leads) =
      subst (λ (k : List (ℕ × Choice)). Stands first k last) (append_assoc steps ((by, choice) ∷ []) later)
      (stands-along first (steps ++ (by, choice) ∷ []) next later last (past-step first steps m by choice next stands step) leads)

-- a pass that is there at last was there before
pub was-there : (shape : Layout) (pass : ℕ) (m : Machine) (steps : List (ℕ × Choice)) (last : Machine) (l : Local) → Leads shape m steps last → slice_get last.locals pass ≡ Some l
    → (k : Local) × (slice_get m.locals pass ≡ Some k)
was-there shape pass m [] last l leads here = (l, subst (λ (k : Machine). slice_get k.locals pass ≡ Some l) (sym leads) here)
was-there shape pass m ((by, choice) ∷ later) last l (next, step, leads) here =
    let (k, there) = was-there shape pass next later last l leads here in
    by_pass pass by
    (λ same. (step.local, subst (λ (n : ℕ). slice_get m.locals n ≡ Some step.local) (sym same) step.here))
    (λ apart. (
      k,
      sym (get-set_other m.locals by pass (after shape by step.local choice step.told (row_shows shape step.offered.op m.row)) apart)
          ∙ subst (λ (x : Machine). slice_get x.locals pass ≡ Some k) step.leads there,
    ))

-- each of a list of the same is that
pub replicate-get : (n i : ℕ) (x y : Local) → slice_get (replicate n x) i ≡ Some y → x ≡ y
replicate-get zero i x y is = absurd (cc)
replicate-get (suc n) zero x y is = cc
replicate-get (suc n) (suc i) x y is = replicate-get n i x y is

-- at the start it has made nothing
start-made : (shape : Layout) (start : List ℕ) (pass : ℕ) (l : Local) → slice_get (started shape start).locals pass ≡ Some l → HasMade pass (started shape start) []
start-made shape start pass l here = record {
  local = fresh shape;
  here = here ∙ ap Some (sym (replicate-get shape.passes pass (fresh shape) l here));
  idle = refl;
  trace = (refl, refl);
}

-- each idle pass has its one trace, and has made its calls
pub calls-made : CallsAreMade
calls-made shape start pass steps last l leads here idle =
    let (k, there) = was-there shape pass (started shape start) steps last l leads here in
    let at_first : HasMade pass (started shape start) [] = start-made shape start pass k there in
    go (stands-along shape pass (started shape start) [] (started shape start) steps last
    (inl (record {
      calls = [];
      busy = [];
      rest = [];
      middle = started shape start;
      splits = refl;
      made = (at_first, refl, refl);
      rests = record { leads = refl; first = at_first; then = at_first; choices = refl };
    })) leads)
  where
    go : Stands shape pass (started shape start) steps last → IsMadeAlong shape start pass steps last l
    go (inl stands) =
        let has : HasMade pass last stands.calls = stands.rests.then in
        let trace : IsTrace l stands.calls = subst (λ (k : Local). IsTrace k stands.calls) (some-same has.local l (sym has.here ∙ here)) has.trace in record {
          trace = stands.calls;
          is_trace = trace;
          only = λ other is. trace-one l stands.calls other trace is;
          busy = stands.busy;
          rest = stands.rest;
          ended = stands.middle;
          splits = stands.splits;
          made = stands.made;
          rests = stands.rests;
        }
    go (inr stands) =
        let is_in : IsIn stands.call stands.calls l = subst (λ (k : Local). IsIn stands.call stands.calls k) (some-same stands.local l (sym stands.here ∙ here)) stands.is_in in
        absurd (subst (λ (k : Phase). InCall k l.stand.words stands.call) idle is_in.in_call)

-- a list in parts of parts
parts-so : (steps busy rest front back during later : List (ℕ × Choice)) → steps ≡ busy ++ rest → busy ≡ front ++ back → back ≡ during ++ later → steps ≡ front ++ (during ++ (later ++ rest))
parts-so steps busy rest front back during later one two three =
    one ∙ (ap (λ (k : List (ℕ × Choice)). k ++ rest) (two ∙ ap (λ (k : List (ℕ × Choice)). front ++ k) three)
    ∙ (append_assoc front (during ++ later) rest ∙ ap (λ (k : List (ℕ × Choice)). front ++ k) (append_assoc during later rest)))

-- and each stretch of it between two moments
pub stretch-made : StretchIsMade
stretch-made shape start pass steps last l before calls later leads here idle trace =
    let along : IsMadeAlong shape start pass steps last l = calls-made shape start pass steps last l leads here idle in
    let made : MakesCalls shape pass [] (before ++ (calls ++ later)) (started shape start) along.busy along.ended =
    subst (λ (k : List CallEnd). MakesCalls shape pass [] k (started shape start) along.busy along.ended) (along.only (before ++ (calls ++ later)) trace) along.made in
    let one : Parts shape pass [] before (calls ++ later) (started shape start) along.busy along.ended = makes-parts shape pass [] before (calls ++ later) (started shape start) along.busy along.ended made in
    let two : Parts shape pass before calls later one.middle one.back along.ended = makes-parts shape pass before calls later one.middle one.back along.ended one.rest in record {
      earlier = one.front;
      during = two.front;
      later = two.back ++ along.rest;
      m = one.middle;
      next = two.middle;
      splits = parts-so steps along.busy along.rest one.front one.back two.front two.back along.splits one.splits two.splits;
      leads_here = makes-leads shape pass [] before (started shape start) one.front one.middle one.makes;
      leads_on = leads-join shape two.middle along.ended last two.back along.rest (makes-leads shape pass (before ++ calls) later two.middle two.back along.ended two.rest) along.rests.leads;
      made = two.makes;
    }

-- and each call of it
-- the two moments of a stretch
abbrev pub first-moment : (shape : Layout) (start : List ℕ) (pass : ℕ) (before calls : List CallEnd) (steps : List (ℕ × Choice)) (last : Machine) → Between shape start pass before calls steps last
    → Moment shape start pass before steps last
first-moment shape start pass before calls steps last b = record {
  earlier = b.earlier;
  later = b.during ++ b.later;
  m = b.m;
  splits = b.splits;
  leads_here = b.leads_here;
  leads_on = leads-join shape b.m b.next last b.during b.later (makes-leads shape pass before calls b.m b.during b.next b.made) b.leads_on;
  made = made-first shape pass before calls b.m b.during b.next b.made;
}

abbrev pub last-moment : (shape : Layout) (start : List ℕ) (pass : ℕ) (before calls : List CallEnd) (steps : List (ℕ × Choice)) (last : Machine) → Between shape start pass before calls steps last
    → Moment shape start pass (before ++ calls) steps last
last-moment shape start pass before calls steps last b = record {
  earlier = b.earlier ++ b.during;
  later = b.later;
  m = b.next;
  splits = b.splits ∙ sym (append_assoc b.earlier b.during b.later);
  leads_here = leads-join shape (started shape start) b.m b.next b.earlier b.during b.leads_here (makes-leads shape pass before calls b.m b.during b.next b.made);
  leads_on = b.leads_on;
  made = made-last shape pass before calls b.m b.during b.next b.made;
}

-- a stretch in two parts
pub record Halves (shape : Layout) (start : List ℕ) (pass : ℕ) (before s t : List CallEnd) (steps : List (ℕ × Choice)) (last : Machine) (b : Between shape start pass before (s ++ t) steps last) : Type 0 where
  pub first : Between shape start pass before s steps last
  pub second : Between shape start pass (before ++ s) t steps last
  pub from : first.m ≡ b.m
  pub middle : second.m ≡ first.next
  pub to : second.next ≡ b.next
  pub splits : b.during ≡ first.during ++ second.during

pub halves : (shape : Layout) (start : List ℕ) (pass : ℕ) (before s t : List CallEnd) (steps : List (ℕ × Choice)) (last : Machine) (b : Between shape start pass before (s ++ t) steps last)
    → Halves shape start pass before s t steps last b
halves shape start pass before s t steps last b =
    let parts : Parts shape pass before s t b.m b.during b.next = makes-parts shape pass before s t b.m b.during b.next b.made in record {
      first = record {
        earlier = b.earlier;
        during = parts.front;
        later = parts.back ++ b.later;
        m = b.m;
        next = parts.middle;
        splits = b.splits ∙ (ap (λ (k : List (ℕ × Choice)). b.earlier ++ (k ++ b.later)) parts.splits ∙ ap (λ (k : List (ℕ × Choice)). b.earlier ++ k) (append_assoc parts.front parts.back b.later));
        leads_here = b.leads_here;
        leads_on = leads-join shape parts.middle b.next last parts.back b.later (makes-leads shape pass (before ++ s) t parts.middle parts.back b.next parts.rest) b.leads_on;
        made = parts.makes;
      };
      second = record {
        earlier = b.earlier ++ parts.front;
        during = parts.back;
        later = b.later;
        m = parts.middle;
        next = b.next;
        splits = b.splits ∙ (ap (λ (k : List (ℕ × Choice)). b.earlier ++ (k ++ b.later)) parts.splits
            ∙ (ap (λ (k : List (ℕ × Choice)). b.earlier ++ k) (append_assoc parts.front parts.back b.later) ∙ sym (append_assoc b.earlier parts.front (parts.back ++ b.later))));
        leads_here = leads-join shape (started shape start) b.m parts.middle b.earlier parts.front b.leads_here (makes-leads shape pass before s b.m parts.front parts.middle parts.makes);
        leads_on = b.leads_on;
        made = parts.rest;
      };
      from = refl;
      middle = refl;
      to = refl;
      splits = parts.splits;
    }
