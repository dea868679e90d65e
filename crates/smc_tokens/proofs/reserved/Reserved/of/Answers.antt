use Rattle.std.proofs.Common.{◌≡◌, sym}
use Rattle.smc_tokens.specs.Marks.{word_text}
use Rattle.smc_tokens.specs.declared.reserved.Reserved.TheVariants.{From, Where, By, Show, Sort, First, As, And, Or, Not, Between, Desc, Sum, Avg, Min, Max, Count, Fold}
use Rattle.smc_tokens.proofs.Finding.{no_word}
use Rattle.smc_tokens.proofs.reserved.Reserved.of.Goals as goal

-- the text is none of the words
pub returns-in_default : goal.returns-in_default
returns-in_default c =
    let no = c.in_default in
    sym (no_word c.args.text.now (λ word. elim word as (λ w. c.args.text.now ≡ word_text w → ⊥) [
      | From ↦ no.not-from
      | Where ↦ no.not-where₀
      | By ↦ no.not-by
      | Show ↦ no.not-show
      | Sort ↦ no.not-sort
      | First ↦ no.not-first
      | As ↦ no.not-as
      | And ↦ no.not-and
      | Or ↦ no.not-or
      | Not ↦ no.not-not
      | Between ↦ no.not-between
      | Desc ↦ no.not-desc
      | Sum ↦ no.not-sum
      | Avg ↦ no.not-avg
      | Min ↦ no.not-min
      | Max ↦ no.not-max
      | Count ↦ no.not-count
      | Fold ↦ no.not-fold
    ]))
