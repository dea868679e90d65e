-- What each step keeps holds after every list of steps.
use Rattle.std.proofs.Common.{◌≡◌, ◌≢◌, ℕ, zero, suc, ◌<◌, ◌==◌, Bool, true, false, Some, List, [], ◌∷◌, refl, sym, ap, ◌∙◌, subst, arith}
use Rattle.std.specs.Prelude.{slice_get, slice_set, if◌then◌else◌}
use Rattle.std.proofs.lemmas.Bool.{eq-eqb, ne_eqb, eqb-true, eqb-false}
use Rattle.std.proofs.lemmas.List.{length-set}
use Rattle.std.proofs.lemmas.Option.{slice_get_within}
use Rattle.smc_shape.specs.Layout.{Layout, IsShape}
use Rattle.smc_shape.specs.declared.place.Place.{Place}
use Rattle.smc_core.specs.declared.call.Choice.{Choice}
use Rattle.smc_core.specs.declared.local.Local.{Local}
use Rattle.smc_core.specs.declared.local.Stand.{Stand}
use Rattle.smc_core.specs.declared.op.Op.{Op}
use Rattle.smc_core.specs.declared.word.Word.{Word}
use Rattle.smc_core.specs.Local.{after}
use Rattle.smc_core.specs.Machine.{Machine, Steps, Leads, stepped}
use Rattle.smc_core.specs.Row.{row_shows}
use Rattle.smc_rules.specs.Mirror.{IsMirrored}
use Rattle.smc_rules.specs.State.{State, put_stand, stand_offer, stand_then, state_after, Backs, IsKept, Backed}
use Rattle.smc_rules.proofs.MirrorLaws.{mirrored}

module _ {A : Type 0} where
  -- what was put there is found there
  pub get-set_same : (xs : List A) (i : ℕ) (x y : A) → slice_get xs i ≡ Some x → slice_get (slice_set xs i y) i ≡ Some y
  get-set_same [] i x y e = cc
  get-set_same (a ∷ xs) zero x y e = refl
  get-set_same (a ∷ xs) (suc i) x y e = get-set_same xs i x y e

  -- elsewhere nothing changes
  pub get-set_other : (xs : List A) (i j : ℕ) (y : A) → j ≢ i → slice_get (slice_set xs i y) j ≡ slice_get xs j
  get-set_other [] i j y n = refl
  get-set_other (a ∷ xs) zero zero y n = absurd (n refl)
  get-set_other (a ∷ xs) zero (suc j) y n = refl
  get-set_other (a ∷ xs) (suc i) zero y n = refl
  get-set_other (a ∷ xs) (suc i) (suc j) y n = get-set_other xs i j y (λ e. n (ap suc e))

  pub some-same : (x y : A) → Some x ≡ Some y → x ≡ y
  some-same x y e = cc

-- one pass or another
pub by_pass : {P : Type 0} (i j : ℕ) → (i ≡ j → P) → (i ≢ j → P) → P
by_pass {P} i j y n = go (i == j) refl
  where
    go : (b : Bool) → (i == j) ≡ b → P
    go true t = y (eqb-true i j t)
    go false t = n (eqb-false i j t)

-- the pass stands where it was put
pub put_stand-same : (stands : ℕ → Stand) (pass i : ℕ) (stand : Stand) → i ≡ pass → put_stand stands pass stand i ≡ stand
put_stand-same stands pass i stand e = ap (λ (b : Bool). if b then stand else stands i) (eq-eqb i pass e)

-- another one stands where it stood
pub put_stand-other : (stands : ℕ → Stand) (pass i : ℕ) (stand : Stand) → i ≢ pass → put_stand stands pass stand i ≡ stands i
put_stand-other stands pass i stand ne = ap (λ (b : Bool). if b then stand else stands i) (ne_eqb i pass ne)

module _ (shape : Layout) (these : Place → Bool) (valid : IsShape shape) where
  -- a step of the machine is a step of the state behind it
  pub backs_step : (m : Machine) (pass : ℕ) (choice : Choice) (l : Local) (told : ℕ) (op : Op) (state : State)
      → Backs shape these m.row m.locals state → slice_get m.locals pass ≡ Some l
      → IsMirrored shape these m.row state.memory op
      → let next : Machine = stepped shape m pass l choice told op in
      Backs shape these next.row next.locals (state_after shape state pass choice told op (row_shows shape op m.row))
  backs_step m pass choice l told op state b here mir =
      let w : Word = row_shows shape op m.row in
      let l' : Local = after shape pass l choice told w in
      let at : state.stands pass ≡ l.stand = b.same pass l here in
      let new : stand_then shape pass (state.stands pass) choice told w ≡ l'.stand = ap (λ (k : Stand). stand_then shape pass k choice told w) at in record {
        mirrors = mir.mirrors;
        count = length-set m.locals pass l' ∙ b.count;
        same = λ other x is. by_pass other pass
            (λ e. let found : l' ≡ x = some-same l' x (sym (get-set_same m.locals pass l l' here) ∙ subst (λ (r : ℕ). slice_get (slice_set m.locals pass l') r ≡ Some x) e is) in
            put_stand-same state.stands pass other (stand_then shape pass (state.stands pass) choice told w) e ∙ (new ∙ ap (λ (k : Local). k.stand) found))
            (λ ne. put_stand-other state.stands pass other (stand_then shape pass (state.stands pass) choice told w) ne
            ∙ b.same other x (sym (get-set_other m.locals pass other l' ne) ∙ is));
      }

  module _ (Rule : State → Type 0) (keeps : IsKept shape these Rule) where
    -- a rule that each step keeps is kept by a step of the machine
    pub backed_step : (m : Machine) (pass : ℕ) (choice : Choice) (next : Machine)
        → Backed shape these Rule m.row m.locals → Steps shape m pass choice next → Backed shape these Rule next.row next.locals
    backed_step m pass choice next b step =
        let state : State = b.state in
        let l : Local = step.local in
        let op : Op = step.offered.op in
        let within : pass < shape.passes = omega (arith, slice_get_within m.locals pass l step.here, b.backs.count) in
        let offers : stand_offer shape pass (state.stands pass) choice ≡ Some step.offered =
        ap (λ (k : Stand). stand_offer shape pass k choice) (b.backs.same pass l step.here) ∙ step.offers in
        let mir : IsMirrored shape these m.row state.memory op =
        mirrored shape these m.row state.memory op valid b.backs.mirrors (keeps.fits state pass choice step.offered within b.rule offers) in
        subst (λ (k : Machine). Backed shape these Rule k.row k.locals) (sym step.leads) (record {
          state = state_after shape state pass choice step.told op (row_shows shape op m.row);
          backs = backs_step m pass choice l step.told op state b.backs step.here mir;
          rule = keeps.kept state pass choice step.offered step.told (row_shows shape op m.row) within b.rule offers mir.shows;
        })

    -- by a list of steps
    pub along : (m : Machine) (steps : List (ℕ × Choice)) (last : Machine)
        → Backed shape these Rule m.row m.locals → Leads shape m steps last → Backed shape these Rule last.row last.locals
    along m [] last b leads = subst (λ (k : Machine). Backed shape these Rule k.row k.locals) leads b
    along m (first ∷ later) last b leads = along leads.0 later last (backed_step m first.0 first.1 leads.0 b leads.1) leads.2
