-- What is said of slots and entries in one state behind a machine holds in each state behind it.
use Rattle.std.proofs.Common.{◌≡◌, ℕ, ◌<◌, sym, ap, ◌∙◌, subst, arith}
use Rattle.std.specs.Prelude.{IsTrue}
use Rattle.std.proofs.lemmas.Bool.Decides.{nat_tests}
use Rattle.smc_shape.specs.Layout.{Layout, entries_of}
use Rattle.smc_shape.specs.declared.place.Place.TheVariants as place
use Rattle.smc_core.specs.declared.local.Opening.{Opening}
use Rattle.smc_core.specs.declared.word.State as E
use Rattle.smc_core.specs.declared.word.State.TheVariants as state
use Rattle.smc_core.specs.Machine.{Machine}
use Rattle.smc_core.specs.Words.{has_object_at, state_of}
use Rattle.smc_rules.specs.Mirror.{anywhere}
use Rattle.smc_rules.specs.Reads.{object, state_in}
use Rattle.smc_rules.specs.SlotRule.{SlotRule}
use Rattle.smc_rules.specs.State.{State, Backs}
use Rattle.smc_rules.proofs.HistoryLaws.{one_word}
use Rattle.smc_inv_use.specs.Rest.{HasOneObject}
use Rattle.smc_full.specs.Full.{EachSlotHolds, NoneSpent}

module _ (shape : Layout) (m : Machine) (s t : State) (b : Backs shape anywhere m.row m.locals s) (c : Backs shape anywhere m.row m.locals t) (coll : ℕ) where
  -- the entries are the same
  same-entry : (entry : ℕ) → entry < entries_of shape coll → state_in t.memory coll entry ≡ state_in s.memory coll entry
  same-entry entry lt = ap state_of (one_word shape m s t b c (place.Entry coll entry) lt)

  pub same-spent : NoneSpent shape t coll → NoneSpent shape s coll
  same-spent none entry last stamp lt is = none entry last stamp lt (same-entry entry lt ∙ is)

  -- an object that is in its slot
  at-it : (incarnation slot : ℕ) (w : E.State) → w ≡ state.Present incarnation slot → IsTrue (has_object_at incarnation slot w)
  at-it incarnation slot w is = subst (λ (v : E.State). IsTrue (has_object_at incarnation slot v)) (sym is) (grind (arith, nat_tests))

  -- so each slot that holds an object in one holds it in the other
  pub same-holds : (opening : Opening) → SlotRule shape opening t → EachSlotHolds shape s coll → EachSlotHolds shape t coll
  same-holds opening rule each slot lt =
      let one : HasOneObject shape s coll slot = each slot lt in
      let here : state_in t.memory coll one.entry ≡ state.Present one.incarnation slot = same-entry one.entry one.within ∙ one.here in record {
        entry = one.entry;
        incarnation = one.incarnation;
        within = one.within;
        here = here;
        only = λ other again le there. one.only other again le (sym (same-entry other le) ∙ there);
        home = rule.home (object one.incarnation one.entry coll) slot one.within (at-it one.incarnation slot (state_in t.memory coll one.entry) here);
      }
