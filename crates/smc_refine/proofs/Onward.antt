-- How a pass goes on from a moment: until its log has an event more it stays outside, and an enter ends with that event.
use Rattle.std.proofs.Common.{◌≡◌, ℕ, zero, suc, ◌+◌, ◌≤◌, ◌<◌, Bool, false, Option, Some, None, List, [], ◌∷◌, ◌++◌, length, ◌⊎◌, inl, inr, refl, sym, ap, ◌∙◌, subst, arith}
use Rattle.std.specs.Prelude.{slice_get}
use Rattle.std.proofs.lemmas.List.{length-append}
use Rattle.smc_shape.specs.Layout.{Layout}
use Rattle.smc_model.specs.declared.event.Event.{Event}
use Rattle.smc_model.specs.declared.event.Event.TheVariants.{Enter}
use Rattle.smc_core.specs.declared.call.Choice.{Choice}
use Rattle.smc_core.specs.declared.call.Choice.TheVariants.{Start, Go}
use Rattle.smc_core.specs.declared.local.Local.{Local}
use Rattle.smc_core.specs.declared.op.Offer.{Offer}
use Rattle.smc_core.specs.declared.phase.Phase.{Phase}
use Rattle.smc_core.specs.declared.phase.Phase.TheVariants as phase
use Rattle.smc_core.specs.declared.section.Section.{Section}
use Rattle.smc_core.specs.declared.section.Section.TheVariants.{Outside, Loaded, Announced, Again, Lasting, Inside}
use Rattle.smc_core.specs.declared.word.Word.{Word}
use Rattle.smc_core.specs.Change.{change}
use Rattle.smc_core.specs.Local.{after, logged}
use Rattle.smc_core.specs.Machine.{local_offer}
use Rattle.smc_core.specs.Offer.{offer}
use Rattle.smc_rules.proofs.CarryLaws.{by_pass}
use Rattle.smc_refine.specs.Alone.{owns_after, answers_until}
use Rattle.smc_refine.proofs.OrderSteps.{logged-told, told_of}
use Rattle.smc_refine.proofs.OwnSteps.{Tied, is_inside, enters, leaves}
use Rattle.smc_refine.proofs.OwnAlong.{Own, own-after, quiet-after, until-later, until-quiet}

-- from a moment at which the log had so many events and the pass was outside a section: with or without a round
pub record Onward (count : ℕ) (owns : Bool) (l : Local) : Type 0 where
  pub own : Own l
  pub long : count ≤ length l.log
  pub round : owns_after false (answers_until count l.answers) ≡ owns
  pub out : length l.log ≡ count → is_inside l.stand.section ≡ false

-- an enter that was in progress when the log had so many events is so still, or ended with the next event
pub record Entered (count : ℕ) (l : Local) : Type 0 where
  pub own : Own l
  pub goes : ((length l.log ≡ count) × (l.stand.phase ≡ phase.Entering)) ⊎ (slice_get l.log count ≡ Some Enter)

-- what stands in a list stays where it is, with more behind it
pub get-front : {A : Type 0} (xs ys : List A) (i : ℕ) (x : A) → slice_get xs i ≡ Some x → slice_get (xs ++ ys) i ≡ Some x
get-front [] ys i x is = absurd (cc)
get-front (y ∷ xs) ys zero x is = is
get-front (y ∷ xs) ys (suc i) x is = get-front xs ys i x is

-- what is put at the end of a list stands there
pub get-end : {A : Type 0} (xs : List A) (x : A) → slice_get (xs ++ x ∷ []) (length xs) ≡ Some x
get-end [] x = refl
get-end (y ∷ xs) x = get-end xs x

module _ (shape : Layout) (pass : ℕ) (l : Local) (choice : Choice) (o : Offer) (told : ℕ) (w : Word) (offers : local_offer shape pass l choice ≡ Some o) where
  abbrev e : Option Event
  e = (change shape pass l.stand l.stand.section l.stand.phase choice told w).event

  abbrev l' : Local
  l' = after shape pass l choice told w

  pub onward-after : (count : ℕ) (owns : Bool) → Onward count owns l → Onward count owns (after shape pass l choice told w)
  onward-after count owns on = go e refl
    where
      longer : (x : Event) → length (logged l.log (Some x)) ≡ length l.log + 1
      longer x = length-append l.log (x ∷ [])

      later : count < length l'.log → Onward count owns l'
      later lt = record {
        own = own-after shape pass l choice o told w on.own offers;
        long = omega (arith, lt);
        round = ap (owns_after false) (until-later count (length l'.log) l.answers (change shape pass l.stand l.stand.section l.stand.phase choice told w).answer lt) ∙ on.round;
        out = λ same. absurd (omega (arith, same, lt));
      }

      go : (x : Option Event) → e ≡ x → Onward count owns l'
      go (Some x) is =
          let same : length l'.log ≡ length l.log + 1 = ap (λ (z : Option Event). length (logged l.log z)) is ∙ longer x in
          later (omega (arith, same, on.long))
      go None is =
          let same : length l'.log ≡ length l.log = ap (λ (z : Option Event). length (logged l.log z)) is in
          by_pass (length l.log) count
          (λ at.
          let quiet = quiet-after shape pass l choice o told w on.own offers (on.out at) is in record {
            own = own-after shape pass l choice o told w on.own offers;
            long = omega (arith, same, on.long);
            round = until-quiet count (length l'.log) l.answers (change shape pass l.stand l.stand.section l.stand.phase choice told w).answer quiet.1 ∙ on.round;
            out = λ still. quiet.0;
          })
          (λ past. later (omega (arith, same, on.long, past)))

  -- an enter goes on, or ends with its event
  enter-goes : (section : Section) (next : Phase) (choice : Choice) (a b : ℕ) → Tied section next a b → next ≡ phase.Entering → offer shape pass l.stand section next choice ≡ Some o
      → (((change shape pass l.stand section next choice told w).event ≡ None) × ((change shape pass l.stand section next choice told w).phase ≡ phase.Entering))
      ⊎ ((change shape pass l.stand section next choice told w).event ≡ Some Enter)
  enter-goes section next choice a b t is can = subst (λ (k : Phase). Tied section k a b → offer shape pass l.stand section k choice ≡ Some o
      → (((change shape pass l.stand section k choice told w).event ≡ None) × ((change shape pass l.stand section k choice told w).phase ≡ phase.Entering))
      ⊎ ((change shape pass l.stand section k choice told w).event ≡ Some Enter)) (sym is) (now section choice) t can
    where
      now : (section : Section) (choice : Choice) → Tied section phase.Entering a b → offer shape pass l.stand section phase.Entering choice ≡ Some o
          → (((change shape pass l.stand section phase.Entering choice told w).event ≡ None) × ((change shape pass l.stand section phase.Entering choice told w).phase ≡ phase.Entering))
          ⊎ ((change shape pass l.stand section phase.Entering choice told w).event ≡ Some Enter)
      now section (Start c) t can = absurd (cc)
      now Outside Go t can = absurd (cc)
      now (Loaded v) Go t can = inl (refl, refl)
      now (Announced v) Go t can = inl (refl, refl)
      now (Again v z) Go t can = inl (refl, refl)
      now (Lasting z) Go t can = inr refl
      now (Inside x cm) Go t can = absurd (cc)

  pub entered-after : (count : ℕ) → Entered count l → Entered count (after shape pass l choice told w)
  entered-after count en = record {
    own = own-after shape pass l choice o told w en.own offers;
    goes = elim en.goes [
      | inl (at, entering) ↦ elim (enter-goes l.stand.section l.stand.phase choice (enters l.log) (leaves l.log) en.own.tied entering offers) [
        | inl (none, still) ↦ inl (ap (λ (z : Option Event). length (logged l.log z)) none ∙ at, still)
        | inr enter ↦ inr (ap (λ (z : Option Event). slice_get (logged l.log z) count) enter
            ∙ subst (λ (k : ℕ). slice_get (l.log ++ Enter ∷ []) k ≡ Some Enter) at (get-end l.log Enter))
      ]
      | inr before ↦ inr (ap (λ (es : List Event). slice_get es count) (logged-told l.log e) ∙ get-front l.log (told_of e) count Enter before)
    ];
  }
