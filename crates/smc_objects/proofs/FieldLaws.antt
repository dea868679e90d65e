-- A load of a field by the index of its word.
use Rattle.std.proofs.Common.{◌≡◌, ℕ, ◌+◌, ◌*◌, ◌<◌, Bool, List, Some, Contains, sym, subst, ap, ◌∙◌, arith}
use Rattle.std.proofs.lemmas.Bool.Decides.{nat_tests}
use Rattle.std.proofs.lemmas.List.Elements.{All-contains}
use Rattle.std.proofs.lemmas.Option.{slice_get_within}
use Rattle.smc_words.specs.declared.number.Number.{Number}
use Rattle.smc_shape.specs.Layout.{Layout, slots_of, width_of}
use Rattle.smc_shape.specs.Places.{at, IsStride}
use Rattle.smc_shape.specs.declared.place.Place.TheVariants as place
use Rattle.smc_model.specs.World.{empty_world}
use Rattle.smc_core.specs.declared.call.Call.TheVariants as call
use Rattle.smc_core.specs.declared.call.Choice.TheVariants.{Start}
use Rattle.smc_core.specs.declared.kind.Kind.TheVariants as kind
use Rattle.smc_core.specs.declared.local.Held.{Held}
use Rattle.smc_core.specs.declared.local.Local.{Local}
use Rattle.smc_core.specs.declared.local.Stand.{Stand}
use Rattle.smc_core.specs.declared.op.Op.TheVariants.{Load}
use Rattle.smc_core.specs.declared.phase.Phase.TheVariants.{Idle}
use Rattle.smc_core.specs.declared.section.Section.TheVariants.{Inside}
use Rattle.smc_core.specs.Machine.{local_offer}
use Rattle.smc_core.specs.Offer.{held_slot}
use Rattle.smc_core.specs.Step.{step}
use Rattle.smc_inv_range.specs.Calls.{IsHeldWithin}
use Rattle.smc_inv_range.proofs.ReachLaws.{ranges_then}
use Rattle.smc_region.specs.declared.act.Act.{Act}
use Rattle.smc_region.specs.Acts.{act_in}
use Rattle.smc_region.specs.Reached.{From}
use Rattle.smc_region.specs.Views.{one}
use Rattle.smc_region.proofs.StepLaws.{was}

-- what a section holds lies in a slot of its collection
pub held_within : (shape : Layout) (pass : ℕ) (l : Local) → From (one shape pass l) → (x : Held) → Contains l.stand.held x → x.slot < slots_of shape x.number.coll
held_within shape pass l f x here =
    let r = f.reached in
    let b = ranges_then shape f.opening empty_world f.machine r.valid (was r) in
    let within : pass < shape.passes = omega (arith, slice_get_within f.machine.locals pass l f.stands.0, b.backs.count) in
    let stands = subst (λ (k : Stand). (y : Held) → Contains k.held y → IsHeldWithin shape y) (b.backs.same pass l f.stands.0)
    (λ y in_it. All-contains (IsHeldWithin shape) _ y (b.rule.stands pass within).held in_it) in
    (stands x here).1

module _ (shape : Layout) where
  -- the field of an object that is held is loaded, where no call is in progress
  pub load-offered : (pass : ℕ) (l : Local) (number : Number) (slot field epoch : ℕ) (calm : Bool) → l.stand.section ≡ Inside epoch calm → l.stand.phase ≡ Idle
      → held_slot l.stand.held number ≡ Some slot → field < width_of shape number.coll
      → local_offer shape pass l (Start (call.Read number field)) ≡ Some (step kind.LoadField (Load (place.Field number.coll slot field)))
  load-offered pass l number slot field epoch calm inside idle held low = grind (arith, nat_tests, inside, idle, held, low)

  -- the act that loads the field with this word
  abbrev loads : ℕ → Act
  loads word = record { kind = kind.LoadField; word = word; expect = 0; put = 0 }

  -- its act is a load of the word that stands so many strides behind the first
  pub act-offered : (pass : ℕ) (l : Local) (number : Number) (slot field first stride epoch : ℕ) (calm : Bool) → IsStride shape stride → l.stand.section ≡ Inside epoch calm → l.stand.phase ≡ Idle
      → held_slot l.stand.held number ≡ Some slot → field < width_of shape number.coll → first ≡ at shape (place.Field number.coll slot 0)
      → act_in shape (local_offer shape pass l (Start (call.Read number field))) ≡ Some (record { kind = kind.LoadField; word = first + field * stride; expect = 0; put = 0 })
  act-offered pass l number slot field first stride epoch calm apart inside idle held low is =
      ap (act_in shape) (load-offered pass l number slot field epoch calm inside idle held low)
      ∙ ap (λ (word : ℕ). Some (loads word)) (apart number.coll slot field ∙ ap (λ (k : ℕ). k + field * stride) (sym is))
