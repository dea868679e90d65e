-- A look-up that goes on, whoever looks.
use Rattle.std.proofs.Common.{◌≡◌, ℕ, refl, sym, ap, ◌∙◌}
use Rattle.smc_words.specs.declared.number.Number.{Number}
use Rattle.smc_shape.specs.Layout.{Layout}
use Rattle.smc_core.specs.declared.local.Local.{Local}
use Rattle.smc_core.specs.declared.phase.Phase.{Phase}
use Rattle.smc_core.specs.declared.phase.Phase.TheVariants as phase
use Rattle.smc_core.specs.declared.phase.objects.CopyPhase.TheVariants as copy
use Rattle.smc_core.specs.declared.phase.objects.Finding.{Finding}
use Rattle.smc_core.specs.declared.phase.objects.Finding.TheVariants.{Abandons, Helps}
use Rattle.smc_core.specs.declared.phase.objects.LookPhase.TheVariants as look
use Rattle.smc_core.specs.declared.phase.objects.Seeker.{Seeker}
use Rattle.smc_core.specs.declared.phase.objects.Seeker.TheVariants as seeker
use Rattle.smc_region.specs.Looks.{looker, looking}

abandons-once : (shape : Layout) (l : Local) (who : Seeker) (number : Number) (slot steps : ℕ)
    → (looking shape l who number (Abandons slot) steps).stand.phase ≡ phase.Look (look.Abandon who number slot)
abandons-once shape l seeker.Caller number slot steps = refl
abandons-once shape l (seeker.Scan scan coll place) number slot steps = refl

helps-once : (shape : Layout) (l : Local) (who : Seeker) (number : Number) (slot steps : ℕ)
    → (looking shape l who number (Helps slot copy.Target) steps).stand.phase ≡ phase.Look (look.Help who number slot copy.Target)
helps-once shape l seeker.Caller number slot steps = refl
helps-once shape l (seeker.Scan scan coll place) number slot steps = refl

abandons-more : (shape : Layout) (l : Local) (who : Seeker) (number : Number) (slot steps more : ℕ) (finding : Finding)
    → looking shape (looking shape l who number (Abandons slot) steps) who number finding more ≡ looking shape l who number finding more
abandons-more shape l seeker.Caller number slot steps more finding = refl
abandons-more shape l (seeker.Scan scan coll place) number slot steps more finding = refl

helps-more : (shape : Layout) (l : Local) (who : Seeker) (number : Number) (slot steps more : ℕ) (finding : Finding)
    → looking shape (looking shape l who number (Helps slot copy.Target) steps) who number finding more ≡ looking shape l who number finding more
helps-more shape l seeker.Caller number slot steps more finding = refl
helps-more shape l (seeker.Scan scan coll place) number slot steps more finding = refl

module _ (shape : Layout) (l now : Local) (who : Seeker) (number : Number) (slot steps : ℕ) (learnt : Finding) (is : now ≡ looking shape l who number learnt steps) where
  -- a look-up that learns that it is to abandon a move, or to help one, does so
  pub abandons-on : learnt ≡ Abandons slot → now.stand.phase ≡ phase.Look (look.Abandon who number slot)
  abandons-on by = ap (λ (k : Local). k.stand.phase) (is ∙ ap (λ (f : Finding). looking shape l who number f steps) by) ∙ abandons-once shape l who number slot steps

  pub helps-on : learnt ≡ Helps slot copy.Target → now.stand.phase ≡ phase.Look (look.Help who number slot copy.Target)
  helps-on by = ap (λ (k : Local). k.stand.phase) (is ∙ ap (λ (f : Finding). looking shape l who number f steps) by) ∙ helps-once shape l who number slot steps

  -- what it learns then is what it learns from the start
  pub abandons-then : (more : ℕ) (finding : Finding) → learnt ≡ Abandons slot → looking shape now (looker now.stand.phase) number finding more ≡ looking shape l who number finding more
  abandons-then more finding by =
      ap (λ (p : Phase). looking shape now (looker p) number finding more) (abandons-on by)
      ∙ ap (λ (k : Local). looking shape k who number finding more) (is ∙ ap (λ (f : Finding). looking shape l who number f steps) by)
      ∙ abandons-more shape l who number slot steps more finding

  pub helps-then : (more : ℕ) (finding : Finding) → learnt ≡ Helps slot copy.Target → looking shape now (looker now.stand.phase) number finding more ≡ looking shape l who number finding more
  helps-then more finding by =
      ap (λ (p : Phase). looking shape now (looker p) number finding more) (helps-on by)
      ∙ ap (λ (k : Local). looking shape k who number finding more) (is ∙ ap (λ (f : Finding). looking shape l who number f steps) by)
      ∙ helps-more shape l who number slot steps more finding

-- a phase names who looks in it
pub abandons-by : (now : Phase) (who : Seeker) (number : Number) (slot : ℕ) → now ≡ phase.Look (look.Abandon who number slot) → now ≡ phase.Look (look.Abandon (looker now) number slot)
abandons-by now who number slot is = is ∙ ap (λ (p : Phase). phase.Look (look.Abandon (looker p) number slot)) (sym is)

pub helps-by : (now : Phase) (who : Seeker) (number : Number) (slot : ℕ) → now ≡ phase.Look (look.Help who number slot copy.Target) → now ≡ phase.Look (look.Help (looker now) number slot copy.Target)
helps-by now who number slot is = is ∙ ap (λ (p : Phase). phase.Look (look.Help (looker p) number slot copy.Target)) (sym is)
