-- What an offered step pays to the epoch rule, and that a step which has nothing to do with epochs pays it.
use Rattle.std.proofs.Common.{◌≡◌, ℕ, ◌<◌, Bool, true, false, length, refl, sym, ap, ◌∙◌, subst, arith}
use Rattle.std.specs.Prelude.{IsTrue, if◌then◌else◌}
use Rattle.smc_words.specs.declared.number.Number.{Number}
use Rattle.smc_shape.specs.Layout.{Layout, IsShape}
use Rattle.smc_shape.specs.declared.place.Place.TheVariants as place
use Rattle.smc_core.specs.declared.call.Choice.{Choice}
use Rattle.smc_core.specs.declared.kind.Kind.TheVariants as kind
use Rattle.smc_core.specs.declared.local.Owned.{Owned}
use Rattle.smc_core.specs.declared.local.Scan.{Scan}
use Rattle.smc_core.specs.declared.local.Stand.{Stand}
use Rattle.smc_core.specs.declared.op.Offer.{Offer}
use Rattle.smc_core.specs.declared.op.Op.TheVariants.{Load}
use Rattle.smc_core.specs.declared.phase.Phase.{Phase}
use Rattle.smc_core.specs.declared.section.Section.{Section}
use Rattle.smc_core.specs.declared.section.Section.TheVariants.{Inside}
use Rattle.smc_core.specs.declared.word.Word.{Word}
use Rattle.smc_core.specs.Begin.{round_offer}
use Rattle.smc_core.specs.Change.{change}
use Rattle.smc_core.specs.Finish.{finish_start, is_early}
use Rattle.smc_core.specs.Local.{section_after}
use Rattle.smc_core.specs.Offer.{look_start}
use Rattle.smc_core.specs.Row.{place_of, has_place}
use Rattle.smc_core.specs.Scan.{next_offer, is_over}
use Rattle.smc_core.specs.Section.{epoch_of}
use Rattle.smc_core.specs.Step.{step}
use Rattle.smc_rules.specs.EpochRule.{own_epoch}
use Rattle.smc_rules.specs.Memory.{Memory, apply, seen}
use Rattle.smc_rules.specs.Reads.{epoch_of_region, announced_by}
use Rattle.smc_rules.specs.State.{State}
use Rattle.smc_inv_epoch.specs.Epochs.{Epochs, is_first}
use Rattle.smc_inv_epoch.proofs.Moves.{SectionFits, Moves, section_fits}
use Rattle.smc_inv_epoch.proofs.Owed.{quiet_moves}
use Rattle.smc_inv_epoch.proofs.Quiet as Q
use Rattle.smc_inv_epoch.proofs.Offers.{far-leaves, Fits}

module _ (shape : Layout) (state : State) (pass : ℕ) where
  -- what an offered step pays: its operation fits, and what the step owes, whatever is shown by a word that nobody asks for
  pub record Pays (section : Section) (call : Phase) (choice : Choice) (o : Offer) : Type 0 where
    pub fits : Fits shape o
    pub moves : (told : ℕ) (w : Word) → (IsTrue (is_first (place_of o.op)) → w ≡ seen o.op state.memory)
        → Moves shape state pass (apply o.op state.memory) (section_after section call choice w) (change shape pass (state.stands pass) section call choice told w).phase

module _ (shape : Layout) (state : State) (pass : ℕ) (h : Epochs shape state) (within : pass < shape.passes) (valid : IsShape shape) where
  abbrev memory : Memory
  memory = state.memory

  abbrev stand : Stand
  stand = state.stands pass

  abbrev epoch : ℕ
  epoch = epoch_of_region memory

  -- what is known of the own section, in the form that it has
  pub own_fits : (section : Section) → stand.section ≡ section → SectionFits epoch (announced_by memory pass) section
  own_fits section at = subst (SectionFits epoch (announced_by memory pass)) at (section_fits shape state pass h within)

  -- a step of a call that has nothing to do with epochs
  pub quiet : (section : Section) (call : Phase) (choice : Choice) (o : Offer) → stand.section ≡ section
      → Fits shape o → IsTrue (Q.leaves o.op) → ((w : Word) → section_after section call choice w ≡ section)
      → ((told : ℕ) (w : Word) → Q.Calm (change shape pass stand section call choice told w)) → Pays shape state pass section call choice o
  quiet section call choice o at fits left same calm = record {
    fits = fits;
    moves = λ told w is. subst (λ s. Moves shape state pass (apply o.op memory) s (change shape pass stand section call choice told w).phase) (sym (same w))
        (quiet_moves shape state pass h within o.op section (change shape pass stand section call choice told w).phase at left (calm told w));
  }

  -- such a step on a word of an object or a slot
  pub far : (section : Section) (call : Phase) (choice : Choice) (o : Offer) → stand.section ≡ section
      → is_first (place_of o.op) ≡ false → ((w : Word) → section_after section call choice w ≡ section)
      → ((told : ℕ) (w : Word) → Q.Calm (change shape pass stand section call choice told w)) → Pays shape state pass section call choice o
  far section call choice o at away same calm = quiet section call choice o at (λ u. cc) (far-leaves o.op away) same calm

  -- one offer or another
  either_offer : (P : Offer → Type 0) (b : Bool) (x y : Offer) → P x → P y → P (if b then x else y)
  either_offer P true x y h k = h
  either_offer P false x y h k = k

  abbrev pub Bears : Offer → Type 0
  Bears o = Fits shape o × IsTrue (Q.leaves o.op)

  -- a load of the own section word
  pub own_load : Bears (step kind.LoadSection (Load (place.Section pass)))
  own_load = (λ u. within, refl)

  pub look_start-bears : (number : Number) → Bears (look_start shape pass number)
  look_start-bears number = either_offer Bears (has_place shape (place.Entry number.coll number.entry)) _ _ ((λ u. cc), refl) own_load

  pub next_offer-bears : (one : Scan) → Bears (next_offer shape pass one)
  next_offer-bears one = either_offer Bears (is_over shape one) _ _ own_load ((λ u. cc), refl)

  pub finish_start-bears : (own : ℕ) (owned : Owned) → Bears (finish_start pass own owned)
  finish_start-bears own owned = either_offer Bears (is_early own owned.bound) _ _ own_load ((λ u. cc), refl)

  -- the word of a round that is begun fits
  pub round-fits : (section : Section) (own coll : ℕ) (calm : Bool) → stand.section ≡ section → section ≡ Inside own calm → coll < length shape.colls
      → Fits shape (round_offer pass (epoch_of section) coll)
  round-fits section own coll calm at is lt u =
      let near = h.rule.near pass own within (ap own_epoch (at ∙ is)) in
      let same : epoch_of section ≡ own = ap epoch_of is in (
        tt,
        tt,
        record {
          begun = omega arith;
          bound = omega (arith, same, near.0, h.rule.last);
          pass = omega (arith, within, valid.passes);
          coll = omega (arith, lt, valid.colls);
        },
      )
