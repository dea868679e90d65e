-- What is read of a text: its tokens up to the place where it ends, or where no token begins.
use Rattle.std.specs.Prelude.{◌≡◌, ◌↔◌, ℕ, ◌==◌, ◌≤◌, Bool, IsTrue, List, [], length, drop}
use Rattle.std.specs.List.{prefix_len}
use Rattle.smc_tokens.specs.Tokens.{space, PlacedToken, FallsInto}

pub record TokenList : Type 0 where
  -- the tokens in their order
  pub tokens : List PlacedToken
  -- the byte where they stop
  pub end : ℕ
  -- whether the text ends there
  pub whole : Bool

-- the text falls into these tokens, and into no more
pub record AreTokensOf (text : List ℕ) (list : TokenList) : Type 0 where
  pub falls : FallsInto 0 text list.tokens list.end (drop list.end text)
  pub within : list.end ≤ length text
  pub whole : IsTrue list.whole ↔ (drop list.end text ≡ [])

-- each text falls into some tokens
abbrev pub FallsIntoSome : Type 0
FallsIntoSome = (text : List ℕ) → (list : TokenList) × AreTokensOf text list

-- what stands behind the spaces that the text begins with
abbrev pub behind_spaces : List ℕ → List ℕ
behind_spaces text = drop (prefix_len (λ byte. byte == space) text) text
