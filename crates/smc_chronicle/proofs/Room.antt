-- Each add of the order finds room.
use Rattle.std.proofs.Common.{◌≡◌, ℕ, ◌+◌, ◌<◌, ◌==◌, Bool, cond, true, None, List, [], ◌∷◌, ◌++◌, refl, sym, ap, ◌∙◌, subst, append_assoc, arith}
use Rattle.std.proofs.lemmas.Bool.{eq-eqb}
use Rattle.std.proofs.lemmas.List.{map-append}
use Rattle.smc_words.specs.declared.number.Number.{Number}
use Rattle.smc_shape.specs.Layout.{Layout, IsShape, slots_of}
use Rattle.smc_model.specs.declared.event.Event.{Event}
use Rattle.smc_model.specs.declared.event.Event.TheVariants.{Add}
use Rattle.smc_model.specs.Order.{events_of}
use Rattle.smc_model.specs.World.{Replay, World, count_of, empty_world, object_of, world_after, world_through}
use Rattle.smc_model.proofs.HistoryLaws.{Replay-back, world_through-append}
use Rattle.smc_model.proofs.WorldLaws.{count_of-added}
use Rattle.smc_core.specs.declared.local.Opening.{Opening}
use Rattle.smc_core.specs.Machine.{Machine}
use Rattle.smc_rules.specs.History.{History, history_order, history_world}
use Rattle.smc_refine.proofs.Ordered.{histories_lawful}
use Rattle.smc_chronicle.specs.Chronicle.{FitsRegion}
use Rattle.smc_chronicle.specs.Places.{world_at}
use Rattle.smc_chronicle.proofs.EachWorld.{each-world}

events_of-append : (xs ys : List (ℕ × Event)) → events_of (xs ++ ys) ≡ events_of xs ++ events_of ys
events_of-append xs ys = map-append (λ done. done.1) xs ys

abbrev one_if : Bool → ℕ
one_if b = cond b 1 0

pub add-room : (shape : Layout) (opening : Opening) (last : Machine) (h : History shape opening empty_world last) → IsShape shape
    → (earlier later : List (ℕ × Event)) (pass coll : ℕ) (number : Number) (words : List ℕ)
    → history_order h ≡ earlier ++ (pass, Add number coll words) ∷ later → count_of (world_at earlier) coll < slots_of shape coll
add-room shape opening last h valid earlier later pass coll number words cut =
    let event : Event = Add number coll words in
    let world : World = world_at earlier in
    let all : events_of (history_order h) ≡ events_of earlier ++ event ∷ events_of later = ap events_of cut ∙ events_of-append earlier ((pass, event) ∷ later) in
    let replay : Replay empty_world (events_of earlier ++ event ∷ events_of later) (history_world h) =
    subst (λ (es : List Event). Replay empty_world es (history_world h)) all (histories_lawful shape opening empty_world last valid h).replay in
    let here : Replay world (event ∷ events_of later) (history_world h) = Replay-back empty_world (history_world h) (events_of earlier) (event ∷ events_of later) replay in
    let new : object_of world number ≡ None = here.0.0 in
    let after : world_at (earlier ++ (pass, event) ∷ []) ≡ world_after world event =
    ap (world_through empty_world) (events_of-append earlier ((pass, event) ∷ [])) ∙ world_through-append empty_world (events_of earlier) (event ∷ []) in
    let more : count_of (world_after world event) coll ≡ count_of world coll + one_if (coll == coll) = count_of-added world number coll words new coll in
    let one : one_if (coll == coll) ≡ one_if true = ap one_if (eq-eqb coll coll refl) in
    let counts : count_of (world_at (earlier ++ (pass, event) ∷ [])) coll ≡ count_of (world_after world event) coll = ap (λ (w : World). count_of w coll) after in
    let fits : FitsRegion shape opening (world_at (earlier ++ (pass, event) ∷ [])) =
    each-world shape opening last h (earlier ++ (pass, event) ∷ []) later valid (cut ∙ sym (append_assoc earlier ((pass, event) ∷ []) later)) in
    let room = fits.within coll in
    omega (arith, room, counts, more, one)
