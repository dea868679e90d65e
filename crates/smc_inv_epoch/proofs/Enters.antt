-- The steps of enter and leave pay what they owe.
use Rattle.std.proofs.Common.{◌≡◌, ℕ, ◌<◌, refl, ap, ◌∙◌, arith}
use Rattle.std.specs.Prelude.{IfSome}
use Rattle.smc_shape.specs.Layout.{Layout, IsShape}
use Rattle.smc_core.specs.declared.call.Call.TheVariants as call
use Rattle.smc_core.specs.declared.call.Choice.TheVariants.{Start, Go}
use Rattle.smc_core.specs.declared.local.Stand.{Stand}
use Rattle.smc_core.specs.declared.phase.Phase.TheVariants as phase
use Rattle.smc_core.specs.declared.section.Section.{Section}
use Rattle.smc_core.specs.declared.section.Section.TheVariants.{Outside, Loaded, Announced, Again, Lasting, Inside}
use Rattle.smc_core.specs.Offer.{go_offer, start_offer}
use Rattle.smc_core.specs.Section.{calm_by}
use Rattle.smc_core.specs.Words.{plain_of, round_of}
use Rattle.smc_rules.specs.EpochRule.{own_epoch}
use Rattle.smc_rules.specs.Memory.{Memory}
use Rattle.smc_rules.specs.Reads.{epoch_of_region, announced_by}
use Rattle.smc_rules.specs.State.{State}
use Rattle.smc_inv_epoch.specs.Epochs.{Epochs}
use Rattle.smc_inv_epoch.proofs.Owed.{outside_fits, loaded_fits, announced_fits, again_fits, lasting_fits, inside_fits, section_moves, stored_words, stored_own}
use Rattle.smc_rules.proofs.OfferLaws.{if_outside, if_inside}
use Rattle.smc_inv_epoch.proofs.Pays.{Pays, own_fits}

module _ (shape : Layout) (state : State) (pass : ℕ) (h : Epochs shape state) (within : pass < shape.passes) (valid : IsShape shape) where
  abbrev memory : Memory
  memory = state.memory

  abbrev stand : Stand
  stand = state.stands pass

  abbrev epoch : ℕ
  epoch = epoch_of_region memory

  -- the steps of enter, each by how far it has come (2, 3, 4, 5)
  pub entering : (section : Section) → stand.section ≡ section → IfSome (go_offer pass stand section phase.Entering) (Pays shape state pass section phase.Entering Go)
  entering Outside at = tt
  entering (Inside own calm) at = tt
  entering (Loaded v) at = let f = own_fits shape state pass h within valid (Loaded v) at in record {
    fits = λ u. (within, omega (arith, f.loaded v refl, h.rule.last));
    moves = λ told w is. section_moves shape state pass h within _ (Announced v) phase.Entering refl
        (stored_words shape state pass h within v)
        (announced_fits epoch _ v (stored_own shape state pass h within v) (f.least_load v refl) (f.loaded v refl)) refl
        (λ i lt own from none. cc);
  }
  entering (Announced v) at = let f = own_fits shape state pass h within valid (Announced v) at in record {
    fits = λ u. tt;
    moves = λ told w is.
        let now : plain_of w ≡ epoch = ap plain_of (is refl) in
        section_moves shape state pass h within memory (Again v (plain_of w)) phase.Entering refl (λ i ne. refl)
        (again_fits epoch (announced_by memory pass) v (plain_of w) f.own_word (f.least_load v refl) (omega (arith, f.loaded v refl, now)) (omega (arith, now)) (omega (arith, now))) refl
        (λ i lt own from own_is at_i loaded. grind (arith, now, h.rule.advance i from lt at_i));
  }
  entering (Again v own) at = let f = own_fits shape state pass h within valid (Again v own) at in let near = f.near own refl in record {
    fits = λ u. (within, omega (arith, near.0, h.rule.last));
    moves = λ told w is. section_moves shape state pass h within _ (Lasting own) phase.Entering refl
        (stored_words shape state pass h within own)
        (lasting_fits epoch _ own (stored_own shape state pass h within own) (f.least_own own refl) near.0 near.1) refl
        (λ i lt s from s_is at_i loaded. h.rule.passed pass s i from within lt (ap own_epoch at ∙ s_is) at_i loaded);
  }
  entering (Lasting own) at = let f = own_fits shape state pass h within valid (Lasting own) at in let near = f.near own refl in record {
    fits = λ u. tt;
    moves = λ told w is. section_moves shape state pass h within memory (Inside own (calm_by own (round_of w))) phase.Idle refl (λ i ne. refl)
        (inside_fits epoch (announced_by memory pass) own (calm_by own (round_of w)) f.own_word (f.least_own own refl) near.0 near.1) refl
        (λ i lt s from s_is at_i loaded. h.rule.passed pass s i from within lt (ap own_epoch at ∙ s_is) at_i loaded);
  }

  -- the first step of enter (1)
  pub begins_enter : (section : Section) → stand.section ≡ section → IfSome (start_offer shape pass stand section call.Enter) (Pays shape state pass section phase.Idle (Start call.Enter))
  begins_enter section at = if_outside (Pays shape state pass section phase.Idle (Start call.Enter)) section _ (λ is. let f = own_fits shape state pass h within valid Outside (at ∙ is) in record {
    fits = λ u. tt;
    moves = λ told w is.
        let now : plain_of w ≡ epoch = ap plain_of (is refl) in
        section_moves shape state pass h within memory (Loaded (plain_of w)) phase.Entering refl (λ i ne. refl)
        (loaded_fits epoch (announced_by memory pass) (plain_of w) f.own_word (omega (arith, now, h.rule.first)) (omega (arith, now))) refl
        (λ i lt own from none. cc);
  })

  -- leave (6)
  pub begins_leave : (section : Section) → stand.section ≡ section → IfSome (start_offer shape pass stand section call.Leave) (Pays shape state pass section phase.Idle (Start call.Leave))
  begins_leave section at = if_inside (Pays shape state pass section phase.Idle (Start call.Leave)) section _ (λ own calm is. record {
    fits = λ u. (within, omega arith);
    moves = λ told w is. section_moves shape state pass h within _ Outside phase.Idle refl (stored_words shape state pass h within 0)
        (outside_fits epoch _ (stored_own shape state pass h within 0)) refl (λ i lt own from none. cc);
  })
