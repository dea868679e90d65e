-- Calls in a section of their own, one after another.
use Rattle.std.proofs.Common.{◌≡◌, ℕ, ◌+◌, ◌<◌, List, Some, [], ◌∷◌, ◌++◌, length, take, refl, sym, subst, ap, ◌∙◌, arith, append_assoc}
use Rattle.std.specs.Prelude.{slice_set}
use Rattle.std.proofs.lemmas.List.{take_more_set, length-take-le}
use Rattle.smc_words.specs.declared.number.Number.{Number}
use Rattle.smc_core.specs.declared.local.Held as core
use Rattle.smc_core.specs.Section.{epoch_of, is_calm}
use Rattle.smc_region.specs.declared.held.Held.{Held}
use Rattle.smc_region.specs.Callers.{Caller, IsSame, entered, left}
use Rattle.smc_trace.specs.Named.{begins, comes_to, enters, leaves, reads}
use Rattle.smc_trace.specs.Trace.{CallEnd}
use Rattle.smc_does.specs.Does.{Does, DoesSome, pair_of}
use Rattle.smc_does.proofs.Bridges.{enter-does, leave-does}
use Rattle.smc_does.proofs.DoesLaws.{does-then}
use Rattle.smc_objects.specs.Alone.{InSection, reads_all, visits_all}

-- what is done between an enter and a leave is done in a section
pub in-section : (pass start end last : Caller) (Inner : List CallEnd → Type 0) (inner : List CallEnd)
    → IsSame pass start → start.local ≡ entered pass.local (epoch_of start.local.stand.section) (is_calm start.local.stand.section)
    → Does start end inner → Inner inner → IsSame end last → last.local ≡ left end.local → DoesSome pass last (InSection Inner)
in-section pass start end last Inner inner same enter does holds out leave =
    let epoch : ℕ = epoch_of start.local.stand.section in (
      enters epoch ++ (inner ++ leaves),
      does-then (enter-does pass start epoch (is_calm start.local.stand.section) same enter) (does-then does (leave-does end last out leave)),
      record { epoch = epoch; inner = inner; holds = holds; made = refl },
    )

-- one field more is read
reads_all-more : (number : Number) (field : ℕ) (words : List ℕ) (word : ℕ) → reads_all number field (words ++ word ∷ []) ≡ reads_all number field words ++ reads number (field + length words) word
reads_all-more number field [] word = ap (λ (k : ℕ). reads number k word) (omega arith)
reads_all-more number field (first ∷ words) word =
    ap (λ (k : List CallEnd). reads number field first ++ k) (reads_all-more number (field + 1) words word ∙ ap (λ (k : ℕ). reads_all number (field + 1) words ++ reads number k word) (omega arith))

pub read-more : (first now next : Caller) (number : Number) (words new : List ℕ) (field word : ℕ) → Does first now (reads_all number 0 (take field words)) → Does now next (reads number field word)
    → field < length words → new ≡ slice_set words field word → Does first next (reads_all number 0 (take (field + 1) new))
read-more first now next number words new field word does more below is =
    let short : length (take field words) ≡ field = length-take-le field words (omega (arith, below)) in
    let long : 0 + length (take field words) ≡ field = omega (arith, short) in
    let taken : take (field + 1) new ≡ take field words ++ word ∷ [] = ap (λ (k : List ℕ). take (field + 1) k) is ∙ take_more_set words field word below in
    subst (λ (k : List ℕ). Does first next (reads_all number 0 k)) (sym taken)
    (subst (λ (k : List CallEnd). Does first next k) (sym (reads_all-more number 0 (take field words) word ∙ ap (λ (k : ℕ). reads_all number 0 (take field words) ++ reads number k word) long))
    (does-then does more))

-- one object more is come to
visits_all-more : (scan : ℕ) (visits : List core.Held) (held : core.Held) → visits_all scan (visits ++ held ∷ []) ≡ visits_all scan visits ++ comes_to scan (Some held)
visits_all-more scan [] held = refl
visits_all-more scan (first ∷ visits) held = ap (λ (k : List CallEnd). comes_to scan (Some first) ++ k) (visits_all-more scan visits held)

pub count-more : (first now next : Caller) (scan after coll : ℕ) (visits : List core.Held) (held : core.Held) → Does first now (begins scan coll ++ visits_all scan visits)
    → Does now next (comes_to scan (Some held)) → after ≡ scan → Does first next (begins after coll ++ visits_all after (visits ++ held ∷ []))
count-more first now next scan after coll visits held does more same =
    subst (λ (k : ℕ). Does first next (begins k coll ++ visits_all k (visits ++ held ∷ []))) (sym same)
    (subst (λ (k : List CallEnd). Does first next (begins scan coll ++ k)) (sym (visits_all-more scan visits held)) (does-then does more))
