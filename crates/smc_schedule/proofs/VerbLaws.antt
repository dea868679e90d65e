-- Words that start no call.
use Rattle.std.proofs.Common.{◌≡◌, ◌≢◌, ℕ, List, false, codes, refl, sym}
use Rattle.std.proofs.lemmas.Bool.{false_from_ne_true}
use Rattle.std.proofs.lemmas.Slice.Eq.{bytes_eq-Decides}
use Rattle.std.specs.Prelude.{None}
use Rattle.std.specs.Str.{bytes_eq}
use Rattle.smc_schedule.specs.Verbs.{verb_of}

-- two words that differ
unlike : (known word : List ℕ) → word ≢ known → bytes_eq known word ≡ false
unlike known word other = false_from_ne_true (bytes_eq known word) (λ same. other (sym ((bytes_eq-Decides known word).0 same)))

-- a word other than the thirteen
pub no_verb : (word : List ℕ) → word ≢ codes "enter" → word ≢ codes "leave" → word ≢ codes "advance" → word ≢ codes "add" → word ≢ codes "look" → word ≢ codes "read"
    → word ≢ codes "write" → word ≢ codes "remove" → word ≢ codes "scan" → word ≢ codes "next" → word ≢ codes "begin" → word ≢ codes "finish" → word ≢ codes "cancel"
    → None ≡ verb_of word
no_verb word enter leave advance add look read write remove scan next begin finish cancel =
    rw (
      unlike (codes "enter") word enter,
      unlike (codes "leave") word leave,
      unlike (codes "advance") word advance,
      unlike (codes "add") word add,
      unlike (codes "look") word look,
      unlike (codes "read") word read,
      unlike (codes "write") word write,
      unlike (codes "remove") word remove,
      unlike (codes "scan") word scan,
      unlike (codes "next") word next,
      unlike (codes "begin") word begin,
      unlike (codes "finish") word finish,
      unlike (codes "cancel") word cancel,
    ) refl
