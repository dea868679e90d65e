-- The world at each place of the order is that of a past history.
use Rattle.std.proofs.Common.{◌≡◌, ℕ, ◌≤◌, ◌<◌, true, List, [], ◌∷◌, ◌++◌, sym, append-nil, ◌∙◌, subst, arith}
use Rattle.std.proofs.lemmas.Bool.Decides.{nat_tests}
use Rattle.smc_shape.specs.Layout.{Layout, IsShape, slots_of}
use Rattle.smc_model.specs.declared.event.Event.{Event}
use Rattle.smc_model.specs.World.{World, empty_world}
use Rattle.smc_core.specs.declared.local.Opening.{Opening}
use Rattle.smc_core.specs.declared.word.State as E
use Rattle.smc_core.specs.declared.word.State.TheVariants as state
use Rattle.smc_core.specs.Machine.{Machine}
use Rattle.smc_core.specs.Words.{has_object}
use Rattle.smc_rules.specs.History.{History, history_order, history_state, history_world}
use Rattle.smc_rules.specs.Memory.{Memory}
use Rattle.smc_rules.specs.Reads.{state_in}
use Rattle.smc_rules.specs.SlotRule.{HasGiven}
use Rattle.smc_refine.proofs.GoingOn.{histories_have_events}
use Rattle.smc_refine.proofs.Ordered.{Ordered, ordered-then}
use Rattle.smc_census.specs.Census.{is_home}
use Rattle.smc_census.proofs.CountLaws.{count_below-le}
use Rattle.smc_census.proofs.HomeCounts.{homes-objects}
use Rattle.smc_chronicle.specs.Chronicle.{FitsRegion}
use Rattle.smc_chronicle.specs.Places.{world_at}

one-object : (a b : ℕ) (w : E.State) → has_object a w ≡ true → has_object b w ≡ true → a ≡ b
one-object a b (state.Present own slot) x y = grind (arith, nat_tests, x, y)
one-object a b (state.Frozen own slot) x y = grind (arith, nat_tests, x, y)
one-object a b (state.Locked own slot) x y = grind (arith, nat_tests, x, y)
one-object a b (state.Removed own slot f l) x y = absurd (cc)
one-object a b (state.Free last stamp) x y = absurd (cc)
one-object a b (state.Claimed own) x y = absurd (cc)

given-less : (opened a b : ℕ) (w : E.State) → HasGiven opened w a → opened < b → b ≤ a → HasGiven opened w b
given-less opened a b (state.Free last stamp) given low le = (low, omega (arith, given.1, le))
given-less opened a b (state.Claimed own) given low le = (low, omega (arith, given.1, le))
given-less opened a b (state.Present own slot) given low le = (low, omega (arith, given.1, le))
given-less opened a b (state.Frozen own slot) given low le = (low, omega (arith, given.1, le))
given-less opened a b (state.Locked own slot) given low le = (low, omega (arith, given.1, le))
given-less opened a b (state.Removed own slot f l) given low le = (low, omega (arith, given.1, le))

-- all that is known behind a history
pub known-of : (shape : Layout) (opening : Opening) (first : World) (m : Machine) (valid : IsShape shape) (h : History shape opening first m)
    → Ordered opening shape first m (history_order h) (history_world h)
known-of shape opening first m valid h = ordered-then opening shape valid first m h.start h.steps h.starts h.leads

-- its world
fits : (shape : Layout) (opening : Opening) (first : World) (m : Machine) → IsShape shape → (h : History shape opening first m) → FitsRegion shape opening (history_world h)
fits shape opening first m valid h =
    let b : Ordered opening shape first m (history_order h) (history_world h) = known-of shape opening first m valid h in
    let memory : Memory = (history_state h).memory in
    let rule = b.holds.rule in record {
      within = λ coll. omega (arith, homes-objects opening shape (history_state h) rule b.fits.of_its_coll coll, count_below-le (is_home memory coll) (slots_of shape coll));
      one_number = λ coll entry p q one two.
          one-object p q (state_in memory coll entry) (sym (rule.records.is_here coll p entry) ∙ one) (sym (rule.records.is_here coll q entry) ∙ two);
      none_left_out = λ coll entry p q some low le.
          rule.records.given_of coll q entry (given-less opening.incarnation p q (state_in memory coll entry) (rule.records.given_in coll p entry some) low le);
    }

-- and the world at each place
pub each-world : (shape : Layout) (opening : Opening) (last : Machine) (h : History shape opening empty_world last) (earlier later : List (ℕ × Event)) → IsShape shape → history_order h ≡ earlier ++ later
    → FitsRegion shape opening (world_at earlier)
each-world shape opening last h earlier [] valid parts =
    subst (λ (es : List (ℕ × Event)). FitsRegion shape opening (world_at es)) (parts ∙ append-nil earlier) (fits shape opening empty_world last valid h)
each-world shape opening last h earlier ((pass, event) ∷ behind) valid parts =
    let t = histories_have_events shape opening empty_world last h earlier pass event behind parts in
    subst (λ (es : List (ℕ × Event)). FitsRegion shape opening (world_at es)) t.order (fits shape opening empty_world t.moment valid t.past)
