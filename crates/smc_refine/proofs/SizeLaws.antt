-- Each record of the world has a word for each field of its collection.
use Rattle.std.proofs.Common.{◌≡◌, ℕ, Bool, true, false, cond, Option, Some, None, option_map, List, length, refl, sym, ap, ◌∙◌}
use Rattle.std.specs.Prelude.{IfSome, ⊤}
use Rattle.std.specs.Ordering.{eq_by_cmp}
use Rattle.std.proofs.lemmas.List.{length-set}
use Rattle.smc_words.specs.declared.number.Number.{Number}
use Rattle.smc_words.specs.Number.{number_cmp}
use Rattle.smc_shape.specs.Layout.{Layout, width_of}
use Rattle.smc_model.specs.declared.event.Event.{Event}
use Rattle.smc_model.specs.declared.event.Event.TheVariants as event
use Rattle.smc_model.specs.declared.object.Object.{Object}
use Rattle.smc_model.specs.World.{World, IsAllowed, changed_at, new_object, object_of, removed, with_word, world_after}
use Rattle.smc_model.proofs.WorldLaws.{object_of-added, object_of-changed, same_number}
use Rattle.smc_core.specs.Change.{change}
use Rattle.smc_rules.specs.State.{world_told}
use Rattle.smc_rules.specs.Start.{FitsShape}
use Rattle.smc_refine.proofs.HomeLaws.{home-after}

module _ (shape : Layout) where
  -- each record has the width of its number's collection
  abbrev pub IsWhole : World → Type 0
  IsWhole world = (n : Number) (o : Object) → object_of world n ≡ Some o → length o.words ≡ width_of shape n.coll

  -- the record of an add has the width of its collection
  abbrev pub HasWidth : Event → Type 0
  HasWidth (event.Add n coll words) = length words ≡ width_of shape coll
  HasWidth _ = ⊤

  whole-changed : (world : World) (n : Number) (change : Object → Object) → ((o : Object) → length (change o).words ≡ length o.words) → IsWhole world → IsWhole (changed_at world n change)
  whole-changed world n change stays whole x o is = go (eq_by_cmp number_cmp x n) refl (object_of world n) refl (sym (object_of-changed world n change x) ∙ is)
    where
      go : (b : Bool) → eq_by_cmp number_cmp x n ≡ b → (found : Option Object) → object_of world n ≡ found
          → cond b (option_map change found) (object_of world x) ≡ Some o → length o.words ≡ width_of shape x.coll
      go true t None at e = absurd (cc)
      go true t (Some old) at e =
          let same : change old ≡ o = cc in
          ap (λ (z : Object). length z.words) (sym same) ∙ (stays old ∙ (whole n old at ∙ ap (λ (z : Number). width_of shape z.coll) (sym (same_number x n t))))
      go false t found at e = whole x o e

  whole-added : (world : World) (n : Number) (coll : ℕ) (words : List ℕ) → n.coll ≡ coll → length words ≡ width_of shape coll → IsWhole world → IsWhole (world_after world (event.Add n coll words))
  whole-added world n coll words of has whole x o is = go (eq_by_cmp number_cmp x n) refl (sym (object_of-added world n coll words x) ∙ is)
    where
      go : (b : Bool) → eq_by_cmp number_cmp x n ≡ b → cond b (Some (new_object coll words)) (object_of world x) ≡ Some o → length o.words ≡ width_of shape x.coll
      go true t e =
          let same : new_object coll words ≡ o = cc in
          ap (λ (z : Object). length z.words) (sym same) ∙ (has ∙ ap (width_of shape) (sym of ∙ ap (λ (z : Number). z.coll) (sym (same_number x n t))))
      go false t e = whole x o e

  whole-after : (world : World) (e : Event) → IsAllowed world e → HasWidth e → IsWhole world → IsWhole (world_after world e)
  whole-after world (event.Add n coll words) may has whole = whole-added world n coll words may.1 has whole
  whole-after world (event.Write n field value) may has whole = whole-changed world n (λ (o : Object). with_word o field value) (λ o. length-set o.words field value) whole
  whole-after world (event.Remove n first) may has whole = whole-changed world n removed (λ o. refl) whole
  whole-after world (event.Look n h) may has whole = whole
  whole-after world (event.Read n f v) may has whole = whole
  whole-after world (event.Begin k c) may has whole = whole
  whole-after world (event.Visit k n) may has whole = whole
  whole-after world (event.End k) may has whole = whole
  whole-after world (event.Refused c x) may has whole = whole
  whole-after world event.Enter may has whole = whole
  whole-after world event.Leave may has whole = whole
  whole-after world (event.Told p c) may has whole = whole

  -- a world that fits the shape does so after what a step tells
  pub fits-told : (world : World) (e : Option Event) → IfSome e (IsAllowed world) → IfSome e HasWidth → FitsShape shape world → FitsShape shape (world_told world e)
  fits-told world None may has fits = fits
  fits-told world (Some e) may has fits = record { of_its_coll = home-after world e may fits.of_its_coll; whole = whole-after world e may has fits.whole }
