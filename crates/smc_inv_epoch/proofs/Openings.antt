-- The row with which a schedule opens is that of a region without objects.
use Rattle.std.proofs.Common.{◌≡◌, ℕ, zero, suc, ◌+◌, ◌*◌, ◌<◌, List, ◌∷◌, ◌++◌, length, refl, ap, ◌∙◌, arith}
use Rattle.std.specs.Prelude.{replicate, slice_index}
use Rattle.std.proofs.lemmas.List.{length-append, length-replicate}
use Rattle.smc_words.specs.declared.layout.TheConstants.{BLANK}
use Rattle.smc_shape.specs.Layout.{IsShape, words_of}
use Rattle.smc_shape.specs.Places.{InRange, at, field_offset}
use Rattle.smc_shape.proofs.PlaceLaws.{field_offset-lt, slots-whole}
use Rattle.smc_shape.specs.declared.place.Place.{Place}
use Rattle.smc_shape.specs.declared.place.Place.TheVariants as place
use Rattle.smc_core.specs.declared.word.State.TheVariants as state
use Rattle.smc_core.specs.declared.word.Word.TheVariants as word
use Rattle.smc_model.specs.World.{empty_world}
use Rattle.smc_rules.specs.History.{History}
use Rattle.smc_rules.proofs.HistoryLaws.{new_starts}
use Rattle.smc_core.specs.Machine.{Machine, IsOpening, IsOpened, Reach, first_word}
use Rattle.smc_core.specs.Played.{Schedule, shape_of, opening_row}
use Rattle.smc_core.specs.Row.{packed}
use Rattle.smc_inv_epoch.specs.Epochs.{opening_of}

-- the number at i of a block, with what follows it
in_block : (n x : ℕ) (rest : List ℕ) (i : ℕ) → i < n → slice_index (replicate n x ++ rest) i ≡ x
in_block zero x rest i lt = absurd (omega arith)
in_block (suc n) x rest zero lt = refl
in_block (suc n) x rest (suc i) lt = in_block n x rest i (omega arith)

past_block : (n x : ℕ) (rest : List ℕ) (i : ℕ) → slice_index (replicate n x ++ rest) (n + i) ≡ slice_index rest i
past_block zero x rest i = ap (λ (k : ℕ). slice_index rest k) (omega arith)
past_block (suc n) x rest i =
    let next : suc n + i ≡ suc (n + i) = omega arith in
    ap (λ (k : ℕ). slice_index (x ∷ replicate n x ++ rest) k) next ∙ past_block n x rest i

last_block : (n x i : ℕ) → i < n → slice_index (replicate n x) i ≡ x
last_block zero x i lt = absurd (omega arith)
last_block (suc n) x zero lt = refl
last_block (suc n) x (suc i) lt = last_block n x i (omega arith)

past_two : (g x : ℕ) (rest : List ℕ) (n i : ℕ) → n ≡ 2 + i → slice_index (g ∷ x ∷ rest) n ≡ slice_index rest i
past_two g x rest n i e = let two : n ≡ suc (suc i) = omega (arith, e) in ap (λ (k : ℕ). slice_index (g ∷ x ∷ rest) k) two

module _ (s : Schedule) (valid : IsShape (shape_of s)) where
  abbrev entry : ℕ
  entry = packed (word.Entry (state.Free s.incarnation 0))

  abbrev At : Place → Type 0
  At there = slice_index (opening_row s) (at (shape_of s) there) ≡ packed (first_word (opening_of s) there)

  -- the words behind the sections, and those behind the entries
  past_sections : (n i : ℕ) → n ≡ 2 + (s.passes + i)
      → slice_index (opening_row s) n ≡ slice_index (replicate s.slots entry ++ (replicate (3 * s.slots) 0 ++ replicate (s.slots * s.width) BLANK)) i
  past_sections n i e = past_two s.epoch 0 _ n (s.passes + i) e ∙ past_block s.passes 0 _ i

  past_entries : (n i : ℕ) → n ≡ 2 + (s.passes + (s.slots + i)) → slice_index (opening_row s) n ≡ slice_index (replicate (3 * s.slots) 0 ++ replicate (s.slots * s.width) BLANK) i
  past_entries n i e = past_sections n (s.slots + i) e ∙ past_block s.slots entry _ i

  zero_at : (n i : ℕ) → n ≡ 2 + (s.passes + (s.slots + i)) → i < 3 * s.slots → slice_index (opening_row s) n ≡ 0
  zero_at n i e lt = past_entries n i e ∙ in_block (3 * s.slots) 0 _ i lt

  word_at : (there : Place) → InRange (shape_of s) there → At there
  unfolding at
  word_at place.Epoch r = refl
  word_at place.Round r = refl
  word_at (place.Section pass) r = past_two s.epoch 0 _ (2 + pass) pass refl ∙ in_block s.passes 0 _ pass r
  word_at (place.Entry zero e) r = past_sections (at (shape_of s) (place.Entry 0 e)) e (omega arith) ∙ in_block s.slots entry _ e r
  word_at (place.Directory zero slot) r = zero_at (at (shape_of s) (place.Directory 0 slot)) slot (omega arith) (omega (arith, r))
  word_at (place.Back zero slot) r = zero_at (at (shape_of s) (place.Back 0 slot)) (s.slots + slot) (omega arith) (omega (arith, r))
  word_at (place.Forward zero slot) r = zero_at (at (shape_of s) (place.Forward 0 slot)) (2 * s.slots + slot) (omega arith) (omega (arith, r))
  word_at (place.Field zero slot field) r =
      let i : ℕ = field_offset s.width slot field in
      past_entries (at (shape_of s) (place.Field 0 slot field)) (3 * s.slots + i) (omega arith)
      ∙ (past_block (3 * s.slots) 0 _ i ∙ last_block (s.slots * s.width) BLANK i (field_offset-lt s.width s.slots slot field (slots-whole (shape_of s) 0 valid) r.0 r.1))
  word_at (place.Entry (suc c) e) r = absurd (omega (arith, r))
  word_at (place.Directory (suc c) slot) r = absurd (omega (arith, r))
  word_at (place.Back (suc c) slot) r = absurd (omega (arith, r))
  word_at (place.Forward (suc c) slot) r = absurd (omega (arith, r))
  word_at (place.Field (suc c) slot field) r = absurd (let lt = r.0 in omega arith)

  long : length (opening_row s) ≡ words_of (shape_of s)
  unfolding words_of
  long = simp (length-append, length-replicate) (omega arith)

  -- the row with which a schedule opens is that of a region without objects
  pub schedule-opened : IsOpened (shape_of s) (opening_of s) (opening_row s)
  schedule-opened = record { long = long; words = word_at }

-- so a machine to which it can be played has a history, from the empty world
pub schedule-history : (s : Schedule) → IsShape (shape_of s) → IsOpening (opening_of s) → (m : Machine) → Reach (shape_of s) (opening_row s) m.row m.locals → History (shape_of s) (opening_of s) empty_world m
schedule-history s valid opens m reached =
    record { start = opening_row s; starts = new_starts (shape_of s) (opening_of s) (opening_row s) opens (schedule-opened s valid); steps = reached.0; leads = reached.1 }
