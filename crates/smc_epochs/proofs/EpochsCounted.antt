-- The epoch is counted by answers, after each list of steps.
use Rattle.std.proofs.Common.{◌≡◌, ℕ, zero, suc, ◌+◌, ◌≤◌, Option, Some, None, List, [], ◌∷◌, ◌++◌, length, refl, sym, ap, ◌∙◌, subst, arith}
use Rattle.std.specs.Prelude.{replicate, slice_get, slice_index, slice_set}
use Rattle.std.specs.List.{AllByRecursion}
use Rattle.std.specs.Option.{option_map_or}
use Rattle.smc_shape.specs.Layout.{Layout, IsShape}
use Rattle.smc_shape.specs.Places.{at}
use Rattle.smc_shape.specs.declared.place.Place.TheVariants as place
use Rattle.smc_core.specs.declared.call.Choice.{Choice}
use Rattle.smc_core.specs.declared.done.Done.{Done}
use Rattle.smc_core.specs.declared.done.Done.TheVariants as done
use Rattle.smc_core.specs.declared.local.Answer.{Answer}
use Rattle.smc_core.specs.declared.local.Local.{Local}
use Rattle.smc_core.specs.declared.local.Opening.{Opening}
use Rattle.smc_core.specs.declared.section.TheConstants.{LAST_EPOCH}
use Rattle.smc_core.specs.Local.{after, answered, fresh}
use Rattle.smc_model.specs.World.{World}
use Rattle.smc_core.specs.Machine.{Machine, Leads, Steps, started}
use Rattle.smc_core.specs.Words.{plain_of}
use Rattle.smc_rules.specs.Start.{IsStart, state_behind}
use Rattle.smc_core.specs.Row.{packed, row_shows}
use Rattle.smc_rules.specs.Memory.{apply, seen}
use Rattle.smc_rules.specs.Reads.{epoch_of_region}
use Rattle.smc_rules.specs.State as S
use Rattle.smc_rules.specs.State.{stand_change, state_after}
use Rattle.smc_rules.proofs.CarryLaws.{by_pass, get-set_other, get-set_same, some-same}
use Rattle.smc_aside.proofs.Scenes.{Scene, Follows, answers_of, follows}
use Rattle.smc_aside.proofs.Waiting.{TellsEpochs}
use Rattle.smc_inv_use.proofs.EpochsTold.{tells-epochs}
use Rattle.smc_inv_use.proofs.Used.{Used, used-kept, used-starts}
use Rattle.smc_trace.specs.Trace.{CallEnd, answers_in, event_in}
use Rattle.smc_epochs.specs.Epochs.{CountsEpochs, EpochsAreCounted, NamesWithin, moved_by, moves_in, moves_of}
use Rattle.smc_epochs.proofs.EpochSteps.{EpochBy, step-by}

-- whether a step with this answer moved the epoch on
abbrev pub moved : Option Done → ℕ
moved None = 0
moved (Some answer) = moved_by answer

by-moved : (d : Option Done) (before after : ℕ) → EpochBy d before after → after ≡ before + moved d
by-moved None before after is = omega (arith, is)
by-moved (Some (done.Advanced epoch)) before after is = is.0
by-moved (Some (done.Overtaken epoch)) before after is = omega (arith, is.0)
by-moved (Some done.Spent) before after is = omega (arith, is.0)
by-moved (Some _) before after is = omega (arith, is)

pub moves-more : (answers : List Answer) (answer : Answer) → moves_in (answers ++ answer ∷ []) ≡ moves_in answers + moved_by answer.done
moves-more [] answer = omega arith
moves-more (first ∷ later) answer = let rest = moves-more later answer in omega (arith, rest)

pub moves-answered : (answers : List Answer) (n : ℕ) (d : Option Done) → moves_in (answered answers n d) ≡ moves_in answers + moved d
moves-answered answers n None = omega arith
moves-answered answers n (Some answer) = moves-more answers (record { length = n; done = answer })

moves-set : (ls : List Local) (i : ℕ) (l l' : Local) → slice_get ls i ≡ Some l → moves_of (slice_set ls i l') + moves_in l.answers ≡ moves_of ls + moves_in l'.answers
moves-set [] i l l' is = absurd (cc)
moves-set (x ∷ ls) zero l l' is = let same : moves_in x.answers ≡ moves_in l.answers = ap (λ (k : Local). moves_in k.answers) (some-same x l is) in omega (arith, same)
moves-set (x ∷ ls) (suc i) l l' is = let rest = moves-set ls i l l' is in omega (arith, rest)

moves-fresh : (n : ℕ) (l : Local) → l.answers ≡ [] → moves_of (replicate n l) ≡ 0
moves-fresh zero l is = refl
moves-fresh (suc n) l is = let none : moves_in l.answers ≡ 0 = ap moves_in is in let rest = moves-fresh n l is in omega (arith, none, rest)

names-later : (first now later : ℕ) (d : Done) → now ≤ later → later ≤ LAST_EPOCH → NamesWithin first now d → NamesWithin first later d
names-later first now later (done.Advanced e) le last is = (is.0, omega (arith, is.1, le))
names-later first now later (done.Overtaken e) le last is = (is.0, omega (arith, is.1, le))
names-later first now later done.Spent le last is = omega (arith, is, le, last)
names-later first now later _ le last is = tt

abbrev AllNamed : ℕ → ℕ → List Answer → Type 0
AllNamed first now answers = AllByRecursion (λ answer. NamesWithin first now answer.done) answers

all-later : (first now later : ℕ) (answers : List Answer) → now ≤ later → later ≤ LAST_EPOCH → AllNamed first now answers → AllNamed first later answers
all-later first now later [] le last is = tt
all-later first now later (a ∷ answers) le last is = (names-later first now later a.done le last is.0, all-later first now later answers le last is.1)

all-more : (first now : ℕ) (answers : List Answer) (answer : Answer) → AllNamed first now answers → NamesWithin first now answer.done → AllNamed first now (answers ++ answer ∷ [])
all-more first now [] answer all one = (one, tt)
all-more first now (a ∷ answers) answer all one = (all.0, all-more first now answers answer all.1 one)

by-named : (d : Done) (first before after : ℕ) → first ≤ before → EpochBy (Some d) before after → NamesWithin first after d
by-named (done.Advanced e) first before after le is = (omega (arith, is.0, is.1, le), omega (arith, is.1))
by-named (done.Overtaken e) first before after le is = (omega (arith, is.0, is.1, le), omega (arith, is.1))
by-named done.Spent first before after le is = is.1
by-named _ first before after le is = tt

all-answered : (first before now : ℕ) (answers : List Answer) (n : ℕ) (d : Option Done) → first ≤ before → EpochBy d before now → AllNamed first now answers → AllNamed first now (answered answers n d)
all-answered first before now answers n None le by all = all
all-answered first before now answers n (Some answer) le by all = all-more first now answers (record { length = n; done = answer }) all (by-named answer first before now le by)

calls-named : (first now n : ℕ) (calls : List CallEnd) → AllNamed first now (answers_in n calls) → AllByRecursion (λ end. NamesWithin first now end.done) calls
calls-named first now n [] all = tt
calls-named first now n (end ∷ calls) all = (all.0, calls-named first now (n + length (event_in end.event)) calls all.1)

-- what the state tells of epochs
epochs-in : (opening : Opening) (shape : Layout) (s : S.State) → Used opening shape s → TellsEpochs shape s
epochs-in opening shape s k = tells-epochs opening shape s k.everything

module _ (opening : Opening) (shape : Layout) (valid : IsShape shape) where
  pub record Counted (m : Machine) : Type 0 where
    pub scene : Scene (Used opening shape) shape m
    pub epoch : epoch_of_region scene.state.memory ≡ opening.epoch + moves_of m.locals
    pub named : (pass : ℕ) (l : Local) → slice_get m.locals pass ≡ Some l → AllNamed opening.epoch (opening.epoch + moves_of m.locals) l.answers

  last-epoch : (m : Machine) (scene : Scene (Used opening shape) shape m) → epoch_of_region scene.state.memory ≤ LAST_EPOCH
  last-epoch m scene = (epochs-in opening shape scene.state scene.rule).rule.last

  answers-there : (locals : List Local) (by : ℕ) (l : Local) → slice_get locals by ≡ Some l → answers_of by locals ≡ l.answers
  answers-there locals by l is = ap (λ (x : Option Local). option_map_or (λ k. k.answers) x []) is

  row-epoch : (m : Machine) (scene : Scene (Used opening shape) shape m) → slice_index m.row (at shape place.Epoch) ≡ epoch_of_region scene.state.memory
  row-epoch m scene = scene.backs.mirrors.words place.Epoch refl tt ∙ ap packed (epochs-in opening shape scene.state scene.rule).number

  pub counted-step : (m : Machine) (by : ℕ) (choice : Choice) (next : Machine) → Counted m → Steps shape m by choice next → Counted next
  counted-step m by choice next c step =
      let s : S.State = c.scene.state in
      let f : Follows (Used opening shape) shape m c.scene by choice next = follows (Used opening shape) shape valid (used-kept opening shape valid) m c.scene by choice next step in
      let l' : Local = after shape by step.local choice step.told (row_shows shape step.offered.op m.row) in
      let d : Option Done = (stand_change shape by (s.stands by) choice f.told (seen f.offered.op s.memory)).answer in
      let set : next.locals ≡ slice_set m.locals by l' = ap (λ (k : Machine). k.locals) step.leads in
      let here : slice_get next.locals by ≡ Some l' = ap (λ (ls : List Local). slice_get ls by) set ∙ get-set_same m.locals by step.local l' step.here in
      let own : l'.answers ≡ answered step.local.answers f.at d = sym (answers-there next.locals by l' here) ∙ (f.own ∙ ap (λ (xs : List Answer). answered xs f.at d) (answers-there m.locals by step.local step.here)) in
      let by_it : EpochBy d (epoch_of_region s.memory) (epoch_of_region (apply f.offered.op s.memory)) =
      step-by shape by (s.stands by) s.memory (epochs-in opening shape s c.scene.rule).number choice f.told f.offered f.offers in
      let now : epoch_of_region f.then.state.memory ≡ epoch_of_region (apply f.offered.op s.memory) = ap (λ (z : S.State). epoch_of_region z.memory) f.is in
      let more : moves_in l'.answers ≡ moves_in step.local.answers + moved d = ap moves_in own ∙ moves-answered step.local.answers f.at d in
      let total : moves_of (slice_set m.locals by l') + moves_in step.local.answers ≡ moves_of m.locals + moves_in l'.answers = moves-set m.locals by step.local l' step.here in
      let all : moves_of next.locals ≡ moves_of (slice_set m.locals by l') = ap moves_of set in
      let grows : epoch_of_region (apply f.offered.op s.memory) ≡ epoch_of_region s.memory + moved d = by-moved d (epoch_of_region s.memory) (epoch_of_region (apply f.offered.op s.memory)) by_it in
      let was = c.epoch in
      let epoch : epoch_of_region f.then.state.memory ≡ opening.epoch + moves_of next.locals = omega (arith, now, more, total, all, grows, was) in
      let last : opening.epoch + moves_of next.locals ≤ LAST_EPOCH = let le = last-epoch next f.then in omega (arith, le, epoch) in
      let up : opening.epoch + moves_of m.locals ≤ opening.epoch + moves_of next.locals = omega (arith, more, total, all) in
      record {
        scene = f.then;
        epoch = epoch;
        named = λ pass l there. by_pass pass by
            (λ e. let same : l' ≡ l = some-same l' l (sym here ∙ subst (λ (i : ℕ). slice_get next.locals i ≡ Some l) e there) in
            subst (λ (k : Local). AllNamed opening.epoch (opening.epoch + moves_of next.locals) k.answers) same
            (subst (AllNamed opening.epoch (opening.epoch + moves_of next.locals)) (sym own)
            (all-answered opening.epoch (epoch_of_region s.memory) (opening.epoch + moves_of next.locals) step.local.answers f.at d (omega (arith, was))
            (subst (λ (n : ℕ). EpochBy d (epoch_of_region s.memory) n) (sym now ∙ epoch) by_it)
            (all-later opening.epoch (opening.epoch + moves_of m.locals) (opening.epoch + moves_of next.locals) step.local.answers up last (c.named by step.local step.here)))))
            (λ ne. all-later opening.epoch (opening.epoch + moves_of m.locals) (opening.epoch + moves_of next.locals) l.answers up last
            (c.named pass l (sym (get-set_other m.locals by pass l' ne) ∙ (ap (λ (ls : List Local). slice_get ls pass) (sym set) ∙ there))));
      }

  counted-along : (m : Machine) (steps : List (ℕ × Choice)) (last : Machine) → Counted m → Leads shape m steps last → Counted last
  counted-along m [] last c leads = subst Counted leads c
  counted-along m (first ∷ later) last c (next, step, leads) = counted-along next later last (counted-step m first.0 first.1 next c step) leads

  fresh-answers : (n i : ℕ) (l : Local) → slice_get (replicate n (fresh shape)) i ≡ Some l → fresh shape ≡ l
  fresh-answers zero i l e = cc
  fresh-answers (suc n) zero l e = cc
  fresh-answers (suc n) (suc i) l e = fresh-answers n i l e

  first-counted : (first : World) (start : List ℕ) → IsStart shape opening first start → Counted (started shape start)
  first-counted first start starts =
      let u = used-starts opening shape valid first start starts in
      let scene : Scene (Used opening shape) shape (started shape start) = record { state = state_behind shape opening (started shape start) first; backs = u.backs; rule = u.rule } in
      let begins : epoch_of_region scene.state.memory ≡ opening.epoch = ap plain_of starts.at_rest.epoch in
      let none : moves_of (replicate shape.passes (fresh shape)) ≡ 0 = moves-fresh shape.passes (fresh shape) refl in record {
        scene = scene;
        epoch = omega (arith, begins, none);
        named = λ pass l there. subst (λ (k : Local). AllNamed opening.epoch (opening.epoch + moves_of (replicate shape.passes (fresh shape))) k.answers) (fresh-answers shape.passes pass l there) tt;
      }

  counts : (last : Machine) → Counted last → CountsEpochs shape opening last
  counts last c = record {
    epoch = row-epoch last c.scene ∙ c.epoch;
    within = let le = last-epoch last c.scene in let is = c.epoch in omega (arith, le, is);
    named = λ pass l calls there trace. calls-named opening.epoch (opening.epoch + moves_of last.locals) 0 calls (subst (AllNamed opening.epoch (opening.epoch + moves_of last.locals)) trace.1 (c.named pass l there));
  }

pub epochs-counted : EpochsAreCounted
epochs-counted shape opening first m valid h =
    counts opening shape valid m (counted-along opening shape valid (started shape h.start) h.steps m (first-counted opening shape valid first h.start h.starts) h.leads)
