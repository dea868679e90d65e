-- One operation on the row is the same operation on the memory that it mirrors.
use Rattle.std.proofs.Common.{◌≡◌, ◌≢◌, ℕ, ◌+◌, ◌*◌, ◌^◌, ◌<◌, ◌==◌, Bool, true, false, not, List, length, refl, sym, ap, ◌∙◌, subst, arith}
use Rattle.std.specs.Prelude.{IsTrue, slice_index, slice_set, bit_or, if◌then◌else◌}
use Rattle.std.proofs.lemmas.Bool.Decides.{nat_tests}
use Rattle.std.proofs.lemmas.Bool.{eq-eqb, ne_eqb}
use Rattle.std.proofs.lemmas.List.{get_or-set_same, get_or-set_other, length-set, set-get_or}
use Rattle.std.proofs.lemmas.Nat.{or_block}
use lib.Bits.{or_zero_r}
use Rattle.smc_words.specs.declared.entry.TheConstants.Entry.{GONE}
use Rattle.smc_shape.specs.Layout.{Layout, IsShape}
use Rattle.smc_shape.specs.Places.{InRange, at}
use Rattle.smc_shape.specs.declared.place.Place.{Place}
use Rattle.smc_shape.specs.declared.place.Place.TheVariants as place
use Rattle.smc_shape.proofs.PlaceLaws.{at-apart, at-lt}
use Rattle.smc_core.specs.declared.op.Op.{Op}
use Rattle.smc_core.specs.declared.op.Op.TheVariants.{Load, Store, Exchange, MarkGone}
use Rattle.smc_core.specs.declared.word.State.{State}
use Rattle.smc_core.specs.declared.word.State.TheVariants as state
use Rattle.smc_core.specs.declared.word.Word.{Word}
use Rattle.smc_core.specs.declared.word.Word.TheVariants as word
use Rattle.smc_core.specs.Row.{packed, unpacked, Suits, FitsState, OpFits, place_of, has_place, put, number_at, row_after}
use Rattle.smc_core.specs.Words.{same_word, state_of, gone}
use Rattle.smc_rules.specs.Memory.{Memory, same_place, put_word, apply}
use Rattle.smc_rules.specs.Mirror.{MirrorsAt, IsMirrored}
use Rattle.smc_rules.proofs.PlaceLaws.{same_place-refl, same_place-eq, in_range-has, has-in_range}
use Rattle.smc_rules.proofs.ReadBack.{unpacked-packed}

pub same_word-eq : (v w : Word) → same_word v w ≡ true → v ≡ w
same_word-eq v w t = grind (arith, nat_tests)

pub same_word-refl : (v : Word) → same_word v v ≡ true
same_word-refl v = grind (arith, nat_tests)

-- two words that suit a place and have one number are one
packed-same : (there : Place) (v w : Word) → Suits there v → Suits there w → packed v ≡ packed w → v ≡ w
packed-same there v w f g e = sym (unpacked-packed there v f) ∙ (ap (unpacked there) e ∙ unpacked-packed there w g)

-- the number h * 16 + r with its bit of GONE set
marked : (h r c n k : ℕ) → r < 16 → bit_or r GONE ≡ c → n ≡ h * 2 ^ 4 + r → k ≡ h * 2 ^ 4 + c → bit_or n GONE ≡ k
marked h r c n k lt is u w =
    let q : bit_or (h * 2 ^ 4 + r) (0 * 2 ^ 4 + 2) ≡ bit_or h 0 * 2 ^ 4 + bit_or r 2 = or_block 4 h 0 r 2 lt (omega arith) in
    let z : bit_or (h * 2 ^ 4 + r) 2 ≡ h * 2 ^ 4 + bit_or r 2 = rw or_zero_r at q in
    ap (λ (y : ℕ). bit_or y 2) u ∙ (z ∙ omega (arith, is, w))

-- to mark the number of a state is to mark the state
packed-gone : (s : State) → bit_or (packed (word.Entry s)) GONE ≡ packed (word.Entry (gone s))
packed-gone (state.Free a t) = marked (a * 2 ^ 36 + t) 3 3 _ _ (omega arith) refl (omega arith) (omega arith)
packed-gone (state.Claimed a) = marked (a * 2 ^ 36) 7 7 _ _ (omega arith) refl (omega arith) (omega arith)
packed-gone (state.Present a t) = marked (a * 2 ^ 36 + t) 0 2 _ _ (omega arith) refl (omega arith) (omega arith)
packed-gone (state.Frozen a t) = marked (a * 2 ^ 36 + t) 8 10 _ _ (omega arith) refl (omega arith) (omega arith)
packed-gone (state.Locked a t) = marked (a * 2 ^ 36 + t) 12 14 _ _ (omega arith) refl (omega arith) (omega arith)
packed-gone (state.Removed a t false false) = marked (a * 2 ^ 36 + t) 2 2 _ _ (omega arith) refl (omega arith) (omega arith)
packed-gone (state.Removed a t false true) = marked (a * 2 ^ 36 + t) 6 6 _ _ (omega arith) refl (omega arith) (omega arith)
packed-gone (state.Removed a t true false) = marked (a * 2 ^ 36 + t) 10 10 _ _ (omega arith) refl (omega arith) (omega arith)
packed-gone (state.Removed a t true true) = marked (a * 2 ^ 36 + t) 14 14 _ _ (omega arith) refl (omega arith) (omega arith)

gone-fits : (s : State) → FitsState s → FitsState (gone s)
gone-fits s f = grind (arith, f)

is_entry : (coll entry : ℕ) (w : Word) → Suits (place.Entry coll entry) w → w ≡ word.Entry (state_of w)
is_entry coll entry (word.Entry s) f = refl
is_entry coll entry _ f = absurd (search)

-- an exchange on the row puts the number of the word that the exchange in the memory puts
exchanged : (there : Place) (w expect v : Word) (number : ℕ) → Suits there w → Suits there expect → number ≡ packed w
    → (if number == packed expect then packed v else number) ≡ packed (if same_word w expect then v else w)
exchanged there w expect v number sw se is = go (same_word w expect) refl
  where
    hit : same_word w expect ≡ true → (number == packed expect) ≡ true
    hit t = eq-eqb number (packed expect) (is ∙ ap packed (same_word-eq w expect t))

    miss : same_word w expect ≡ false → (number == packed expect) ≡ false
    miss t = ne_eqb number (packed expect) (λ q.
        let same : w ≡ expect = packed-same there w expect sw se (sym is ∙ q) in
        let no : same_word expect expect ≡ false = subst (λ z. same_word z expect ≡ false) same t in
        absurd (grind (arith, no, same_word-refl expect)))

    go : (b : Bool) → same_word w expect ≡ b → (if number == packed expect then packed v else number) ≡ packed (if same_word w expect then v else w)
    go true t = rw (t, hit t) refl
    go false t = rw (t, miss t) is

either_suits : (there : Place) (b : Bool) (v w : Word) → Suits there v → Suits there w → Suits there (if b then v else w)
either_suits there true v w sv sw = sv
either_suits there false v w sv sw = sw

-- no test is both ways
both : (b : Bool) → IsTrue b → IsTrue (not b) → ⊥
both true u v = cc
both false u v = cc

-- an operation leaves the words of other places
pub apply-other : (op : Op) (memory : Memory) (there : Place) → same_place there (place_of op) ≡ false → apply op memory there ≡ memory there
apply-other (Load here) memory there e = refl
apply-other (Store here w) memory there e = rw e refl
apply-other (Exchange here expect w) memory there e = rw e refl
apply-other (MarkGone coll entry) memory there e = rw e refl

module _ (shape : Layout) (these : Place → Bool) (row : List ℕ) (memory : Memory) (valid : IsShape shape) (h : MirrorsAt shape these row memory) where
  -- a number is put at a place of the region that is mirrored, and its word into the memory
  stored : (here : Place) (v : Word) (number : ℕ) → InRange shape here → IsTrue (these here) → Suits here v → number ≡ packed v
      → MirrorsAt shape these (slice_set row (at shape here) number) (put_word memory here v)
  stored here v number r t s is = record {
    long = length-set row (at shape here) number ∙ h.long;
    words = λ there u q. words-at there u q (same_place there here) refl;
    suits = λ there u q. suits-at there u q (same_place there here) refl;
  }
    where
      words-at : (there : Place) → IsTrue (these there) → InRange shape there → (b : Bool) → same_place there here ≡ b
          → slice_index (slice_set row (at shape here) number) (at shape there) ≡ packed (if same_place there here then v else memory there)
      words-at there u q true e =
          let within : at shape here < length row = omega (arith, at-lt shape here valid r, h.long) in
          let one : at shape there ≡ at shape here = ap (at shape) (same_place-eq there here e) in
          rw (e, one) (get_or-set_same row (at shape here) number 0 within ∙ is)
      words-at there u q false e =
          let apart : at shape there ≢ at shape here = λ same.
          let one : there ≡ here = at-apart shape there here valid q r same in
          let no : same_place here here ≡ false = subst (λ z. same_place z here ≡ false) one e in
          absurd (grind (arith, no, same_place-refl here)) in
          rw e (get_or-set_other row (at shape here) (at shape there) number 0 apart ∙ h.words there u q)

      suits-at : (there : Place) → IsTrue (these there) → InRange shape there → (b : Bool) → same_place there here ≡ b
          → Suits there (if same_place there here then v else memory there)
      suits-at there u q true e = rw e (subst (λ p. Suits p v) (sym (same_place-eq there here e)) s)
      suits-at there u q false e = rw e (h.suits there u q)

  -- at other places the memory says what it said
  elsewhere : (op : Op) (row' : List ℕ) → IsTrue (not (these (place_of op))) → length row' ≡ length row
      → ((there : Place) → IsTrue (these there) → InRange shape there → slice_index row' (at shape there) ≡ slice_index row (at shape there))
      → MirrorsAt shape these row' (apply op memory)
  elsewhere op row' away long same = record {
    long = long ∙ h.long;
    words = λ there u q. same there u q ∙ (h.words there u q ∙ ap packed (sym (apply-other op memory there (apart there u))));
    suits = λ there u q. subst (Suits there) (sym (apply-other op memory there (apart there u))) (h.suits there u q);
  }
    where
      apart : (there : Place) → IsTrue (these there) → same_place there (place_of op) ≡ false
      apart there u = go (same_place there (place_of op)) refl
        where
          go : (b : Bool) → same_place there (place_of op) ≡ b → same_place there (place_of op) ≡ false
          go true e =
              let is : IsTrue (these (place_of op)) = subst (λ p. IsTrue (these p)) (same_place-eq there (place_of op) e) u in
              absurd (both (these (place_of op)) is away)
          go false e = e

  -- what the operation shows of a word that is mirrored
  shown_there : (there : Place) → IsTrue (these there) → InRange shape there → unpacked there (number_at shape row there) ≡ memory there
  shown_there there u r =
      rw (in_range-has shape there r) (ap (unpacked there) (h.words there u r) ∙ unpacked-packed there (memory there) (h.suits there u r))

  -- the row after an operation on a place of the region
  row-there : (op : Op) → InRange shape (place_of op)
      → row_after shape op row ≡ slice_set row (at shape (place_of op)) (put op (slice_index row (at shape (place_of op))))
  row-there op r = rw (in_range-has shape (place_of op) r) refl

  abbrev After : Op → List ℕ → Type 0
  After op row' = MirrorsAt shape these row' (apply op memory)

  -- an operation on a place that is mirrored
  here : (op : Op) → IsTrue (these (place_of op)) → OpFits shape op → IsMirrored shape these row memory op
  here (Load there) u fits = record {
    mirrors = subst (After (Load there)) (sym (row-there (Load there) fits ∙ set-get_or row (at shape there) 0)) h;
    shows = λ _. shown_there there u fits;
  }
  here (Store there w) u fits = record {
    mirrors = subst (After (Store there w)) (sym (row-there (Store there w) fits.0)) (stored there w (packed w) fits.0 u fits.1 refl);
    shows = λ _. refl;
  }
  here (Exchange there expect w) u fits = record {
    mirrors = subst (After (Exchange there expect w)) (sym (row-there (Exchange there expect w) fits.0))
        (stored there (if same_word (memory there) expect then w else memory there)
        (put (Exchange there expect w) (slice_index row (at shape there))) fits.0 u
        (either_suits there (same_word (memory there) expect) w (memory there) fits.2 (h.suits there u fits.0))
        (exchanged there (memory there) expect w (slice_index row (at shape there)) (h.suits there u fits.0) fits.1 (h.words there u fits.0)));
    shows = λ _. shown_there there u fits.0;
  }
  here (MarkGone coll entry) u fits =
      let there : Place = place.Entry coll entry in
      let s : State = state_of (memory there) in
      let is : memory there ≡ word.Entry s = is_entry coll entry (memory there) (h.suits there u fits) in record {
        mirrors = subst (After (MarkGone coll entry)) (sym (row-there (MarkGone coll entry) fits))
            (stored there (word.Entry (gone s)) (put (MarkGone coll entry) (slice_index row (at shape there))) fits u
            (gone-fits s (subst (Suits there) is (h.suits there u fits)))
            (ap (λ n. bit_or n GONE) (h.words there u fits ∙ ap packed is) ∙ packed-gone s));
        shows = λ _. shown_there there u fits;
      }

  -- an operation on a place that is not
  away_from : (op : Op) → IsTrue (not (these (place_of op))) → (b : Bool) → has_place shape (place_of op) ≡ b → MirrorsAt shape these (row_after shape op row) (apply op memory)
  away_from op away true has =
      let r : InRange shape (place_of op) = has-in_range shape (place_of op) has in
      let number : ℕ = put op (slice_index row (at shape (place_of op))) in
      subst (After op) (sym (row-there op r))
      (elsewhere op (slice_set row (at shape (place_of op)) number) away (length-set row (at shape (place_of op)) number)
      (λ there u q. get_or-set_other row (at shape (place_of op)) (at shape there) number 0 (λ same.
      let one : there ≡ place_of op = at-apart shape there (place_of op) valid q r same in
      both (these (place_of op)) (subst (λ p. IsTrue (these p)) one u) away)))
  away_from op away false has = subst (After op) (sym (rw has refl)) (elsewhere op row away refl (λ there u q. refl))

  -- the operation on the row is the operation on the memory
  pub mirrored_op : (op : Op) → (IsTrue (these (place_of op)) → OpFits shape op) → IsMirrored shape these row memory op
  mirrored_op op fits = go (these (place_of op)) refl
    where
      go : (b : Bool) → these (place_of op) ≡ b → IsMirrored shape these row memory op
      go true e = here op e (fits e)
      go false e = record {
        mirrors = away_from op (ap not e) (has_place shape (place_of op)) refl;
        shows = λ u. absurd (both (these (place_of op)) u (ap not e));
      }

-- where a row mirrors a memory, it does so after each operation that fits
pub mirrored : (shape : Layout) (these : Place → Bool) (row : List ℕ) (memory : Memory) (op : Op)
    → IsShape shape → MirrorsAt shape these row memory → (IsTrue (these (place_of op)) → OpFits shape op) → IsMirrored shape these row memory op
mirrored shape these row memory op valid h fits = mirrored_op shape these row memory valid h op fits
