-- What the fields of slots say together.
use Rattle.std.proofs.Common.{◌≡◌, ◌≢◌, ℕ, ◌<◌, Some, arith}
use Rattle.smc_words.specs.declared.layout.TheConstants.{BLANK}
use Rattle.smc_shape.specs.Layout.{Layout, width_of}
use Rattle.smc_core.specs.declared.phase.objects.CopyPhase.TheVariants as copy
use Rattle.smc_rules.specs.Calls.{copying_of}
use Rattle.smc_rules.specs.Reads.{field_in, object}
use Rattle.smc_rules.specs.State as S
use Rattle.smc_agreement.specs.Records.{RecordsAgree}
use Rattle.smc_agreement.proofs.Whole.{Shut, copies}

-- one who copies puts no blank into a field that is still blank
pub put_word : (sh : Layout) (st : S.State) → Shut sh st → (opened : ℕ) → RecordsAgree opened sh st → (p c a e q t f w : ℕ) → p < sh.passes
    → copying_of (st.stands p).phase ≡ Some (record { number = object a e c; source = q; next = copy.Put t f w }) → f < width_of sh c → field_in st.memory c t f ≡ BLANK → w ≢ BLANK
put_word sh st h opened r p c a e q t f w lp jb lf bl = grind (
  arith,
  r.j_fields p c a e q f (copy.Put t f w) lp jb lf,
  (copies h).j_led p c a e q (copy.Put t f w) lp jb,
  r.j_word p c a e q f w (copy.Put t f w) lp jb,
  r.placed_record c a e q f,
  r.values c a e f (field_in st.memory c q f),
)
