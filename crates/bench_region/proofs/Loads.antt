-- A load of a field by numbers.
use Rattle.std.proofs.Common.{◌≡◌, ℕ, ◌+◌, ◌*◌, ◌<◌, Bool, Some, sym, ap, ◌∙◌, arith}
use Rattle.std.proofs.lemmas.Bool.Decides.{nat_tests}
use Rattle.smc_words.specs.declared.number.Number.{Number}
use Rattle.smc_shape.specs.Layout.{Layout, width_of}
use Rattle.smc_shape.specs.Places.{at, IsStride}
use Rattle.smc_shape.specs.declared.place.Place.TheVariants as place
use Rattle.smc_core.specs.declared.call.Call.TheVariants as call
use Rattle.smc_core.specs.declared.call.Choice.TheVariants.{Start}
use Rattle.smc_core.specs.declared.kind.Kind.TheVariants as kind
use Rattle.smc_core.specs.declared.local.Local.{Local}
use Rattle.smc_core.specs.declared.op.Op.TheVariants.{Load}
use Rattle.smc_core.specs.declared.phase.Phase.TheVariants.{Idle}
use Rattle.smc_core.specs.declared.section.Section.TheVariants.{Inside}
use Rattle.smc_core.specs.Machine.{local_offer}
use Rattle.smc_core.specs.Offer.{held_slot}
use Rattle.smc_core.specs.Step.{step}
use Rattle.smc_region.specs.declared.act.Act.{Act}
use Rattle.smc_region.specs.Acts.{act_in}

module _ (shape : Layout) where
  -- the field of an object that is held is loaded, where no call is in progress
  load-offered : (pass : ℕ) (l : Local) (number : Number) (slot field epoch : ℕ) (calm : Bool) → l.stand.section ≡ Inside epoch calm → l.stand.phase ≡ Idle
      → held_slot l.stand.held number ≡ Some slot → field < width_of shape number.coll
      → local_offer shape pass l (Start (call.Read number field)) ≡ Some (step kind.LoadField (Load (place.Field number.coll slot field)))
  load-offered pass l number slot field epoch calm inside idle held low = grind (arith, nat_tests, inside, idle, held, low)

  -- the act that loads the field with this word
  abbrev read_at : ℕ → Act
  read_at word = record { kind = kind.LoadField; word = word; expect = 0; put = 0 }

  -- so its act is a load of the word that stands so many strides behind the first
  pub act-offered : (pass : ℕ) (l : Local) (number : Number) (slot field first stride epoch : ℕ) (calm : Bool) → IsStride shape stride → l.stand.section ≡ Inside epoch calm → l.stand.phase ≡ Idle
      → held_slot l.stand.held number ≡ Some slot → field < width_of shape number.coll → first ≡ at shape (place.Field number.coll slot 0)
      → act_in shape (local_offer shape pass l (Start (call.Read number field))) ≡ Some (record { kind = kind.LoadField; word = first + field * stride; expect = 0; put = 0 })
  act-offered pass l number slot field first stride epoch calm apart inside idle held low is =
      ap (act_in shape) (load-offered pass l number slot field epoch calm inside idle held low)
      ∙ ap (λ (word : ℕ). Some (read_at word)) (apart number.coll slot field ∙ ap (λ (k : ℕ). k + field * stride) (sym is))
