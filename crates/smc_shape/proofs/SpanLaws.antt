-- Spans that are laid out one after the other.
use Rattle.std.proofs.Common.{◌≡◌, ℕ, ◌+◌, ◌<◌, ◌≤◌, List, length, map, take, get_or, set, None, refl, sym, ap, ◌∙◌, subst, arith, below_more, ◌≢◌, get_or-set_other, get_or-set_same}
use Rattle.std.proofs.lemmas.List.{map_more, take_more_set, map-append, length-map, take_all}
use Rattle.smc_shape.specs.declared.coll.CollShape.{CollShape}
use Rattle.smc_shape.specs.declared.shape.Span.{Span}
use Rattle.smc_shape.specs.declared.shape.TheConstants.{MAX_COLLS, MAX_WORDS, NO_SPAN}
use Rattle.smc_shape.specs.Layout.{Collection, Layout, IsShape, asked, asked_coll, coll_words, words_of}
use Rattle.smc_shape.specs.Faults.{fault_of}
use Rattle.smc_shape.specs.Places.{start_of}
use Rattle.smc_shape.specs.Span.{coll_in, layout_of, IsLaidOut}
use Rattle.smc_shape.proofs.AskedLaws.{none_asked, asked-coll_of, start_of-last, no-fault_of}
use Rattle.smc_shape.proofs.PlaceLaws.{coll-within}

-- one more span of the collection that is asked for next
pub spans-more : (spans : List Span) (colls : List CollShape) (c : ℕ) (span : Span) → c < length spans → c < length colls
    → coll_in span ≡ asked_coll (get_or colls c none_asked) → map coll_in (take c spans) ≡ map asked_coll (take c colls)
    → map coll_in (take (c + 1) (set spans c span)) ≡ map asked_coll (take (c + 1) colls)
spans-more spans colls c span ls lc next so_far =
    rw (take_more_set spans c span ls, map-append, map_more asked_coll colls c none_asked lc, next, so_far) refl

-- the next collection ends within the row
pub next-within : (passes : ℕ) (colls : List CollShape) (c : ℕ) → fault_of passes colls ≡ None → c < length colls
    → start_of (asked passes colls) c + coll_words (asked_coll (get_or colls c none_asked)) ≤ MAX_WORDS
next-within passes colls c none l =
    let few : c < length (map asked_coll colls) = rw length-map l in
    let here = asked-coll_of passes colls c l in
    let valid = no-fault_of passes colls none in
    omega (arith, coll-within (asked passes colls) c few, ap coll_words here, valid.words)

-- there is room for a span of each collection
pub few-asked : (passes : ℕ) (colls : List CollShape) → fault_of passes colls ≡ None → length colls ≤ MAX_COLLS
few-asked passes colls none =
    let few : length (map asked_coll colls) ≤ MAX_COLLS = (no-fault_of passes colls none).colls in omega (arith, length-map colls asked_coll)

-- once the spans are those of all collections, they are laid out
pub spans-all : (passes words c : ℕ) (colls : List CollShape) (spans : List Span) → fault_of passes colls ≡ None → c ≡ length colls
    → map coll_in (take c spans) ≡ map asked_coll (take c colls) → words ≡ start_of (asked passes colls) c
    → ((k : ℕ) → k < c → (get_or spans k NO_SPAN).start ≡ start_of (asked passes colls) k) → IsLaidOut passes c words spans
spans-all passes words c colls spans none all so_far ends starts =
    let whole : take c colls ≡ colls = take_all c colls (omega arith) in
    let same : layout_of passes c spans ≡ asked passes colls =
    ap (λ (xs : List Collection). record { passes = passes; colls = xs }) (so_far ∙ ap (map asked_coll) whole) in
    let valid = no-fault_of passes colls none in
    record {
      valid = subst (λ (shape : Layout). IsShape shape) (sym same) valid;
      few = omega (arith, few-asked passes colls none);
      starts = λ k l. starts k l ∙ ap (λ (shape : Layout). start_of shape k) (sym same);
      ends = ends ∙ (ap (start_of (asked passes colls)) all ∙ (start_of-last passes colls ∙ ap words_of (sym same)));
    }

-- the next span begins where it has to, and the others as before
pub starts-more : (at : ℕ → ℕ) (spans : List Span) (c : ℕ) (span : Span) → c < length spans → span.start ≡ at c
    → ((k : ℕ) → k < c → (get_or spans k NO_SPAN).start ≡ at k) → (k : ℕ) → k < c + 1 → (get_or (set spans c span) k NO_SPAN).start ≡ at k
starts-more at spans c span l next so_far =
    below_more _ c
    (λ k lt. let other : k ≢ c = omega arith in rw get_or-set_other (so_far k lt))
    (rw get_or-set_same next)
