-- What a group does is read off from the traces of all passes.
use Rattle.std.proofs.Common.{◌≡◌, ℕ, List, [], ◌∷◌, ◌++◌, length, map, refl, sym, subst, ap, ◌∙◌, append_assoc, append-nil, arith}
use Rattle.std.specs.List.{AllZip, flat_map}
use Rattle.std.proofs.lemmas.List.{append_cancel_left, append_cancel_right}
use Rattle.smc_trace.specs.Named.{notes}
use Rattle.smc_trace.specs.Trace.{CallEnd}
use Rattle.smc_script.specs.Trees.{NumberedTree}
use Rattle.smc_replies.specs.Books.{Books, KnowsSame, Named}
use Rattle.smc_replies.specs.Groups.{Progress, RunsGroup, all_calls, group_text, learns_all}
use Rattle.smc_replies.specs.Laws.{GroupIsOne, SameSoFar}
use Rattle.smc_replies.specs.Loads.{Scene}
use Rattle.smc_replies.specs.Workers.{Worked, WorksAs, with_added}
use Rattle.smc_visits.proofs.FrontLaws.{later-calls}
use Rattle.smc_replies.proofs.ObjectFronts.{DayHasOneText}
use Rattle.smc_replies.proofs.WorkerFronts.{worker-one}

-- ---- traces that go on

-- the trace goes on to the other
abbrev GoesOn : List CallEnd → List CallEnd → Type 0
GoesOn old new = (more : List CallEnd) × (new ≡ old ++ more)

-- each does to the one beside it
abbrev AllGoOn : List (List CallEnd) → List (List CallEnd) → Type 0
AllGoOn old new = AllZip GoesOn old new

all-stay : (traces : List (List CallEnd)) → AllGoOn traces traces
all-stay [] = tt
all-stay (trace ∷ later) = (([], sym (append-nil trace)), all-stay later)

-- ---- the workers

first-same : {A : Type 0} (x y : A) (xs ys : List A) → (x ∷ xs) ≡ (y ∷ ys) → x ≡ y
first-same x y xs ys is = cc

later-same : {A : Type 0} (x y : A) (xs ys : List A) → (x ∷ xs) ≡ (y ∷ ys) → xs ≡ ys
later-same x y xs ys is = cc

-- what two workers did, whose passes had done the same before and have done the same behind
behind-before : (one two : Worked) (all : List CallEnd) (a : GoesOn (all_calls one) all) (b : GoesOn (all_calls two) all) → one.before ≡ two.before → one.calls ++ a.0 ≡ two.calls ++ b.0
behind-before one two all a b began =
    let mine = sym (append_assoc one.before one.calls a.0) ∙ sym a.1 ∙ b.1 ∙ append_assoc two.before two.calls b.0 in
    append_cancel_left one.before (one.calls ++ a.0) (two.calls ++ b.0) (mine ∙ ap (λ (x : List CallEnd). x ++ (two.calls ++ b.0)) (sym began))

workers-one : DayHasOneText → (scene : Scene) (known others : Books) (told also : ℕ) (workers : List (List NumberedTree)) (did done : List Worked) (idle rest all : List (List CallEnd)) → KnowsSame known others
    → AllZip (WorksAs scene known told) workers did → AllZip (WorksAs scene others also) workers done
    → map (λ (worked : Worked). worked.before) did ++ idle ≡ map (λ (worked : Worked). worked.before) done ++ rest → AllGoOn (map all_calls did ++ idle) all → AllGoOn (map all_calls done ++ rest) all
    → (did ≡ done) × (idle ≡ rest)
workers-one days scene known others told also [] [] [] idle rest all are a b began one two = (refl, began)
workers-one days scene known others told also (w ∷ ws) (d ∷ ds) (e ∷ es) idle rest [] are a b began one two = absurd one
workers-one days scene known others told also (w ∷ ws) (d ∷ ds) (e ∷ es) idle rest (f ∷ fs) are a b began one two =
    let before : d.before ≡ e.before = first-same _ _ _ _ began in
    let first = worker-one days scene known others told also w d e one.0.0 two.0.0 are before a.0 b.0 (behind-before d e f one.0 two.0 before) in
    let later = workers-one days scene known others told also ws ds es idle rest fs are a.1 b.1 (later-same _ _ _ _ began) one.1 two.1 in
    (ap (λ (x : Worked). x ∷ ds) first.0 ∙ ap (λ (xs : List Worked). e ∷ xs) later.0, later.1)
workers-one days scene known others told also [] (d ∷ ds) done idle rest all are a b began one two = absurd a
workers-one days scene known others told also [] [] (e ∷ es) idle rest all are a b began one two = absurd b
workers-one days scene known others told also (w ∷ ws) [] done idle rest all are a b began one two = absurd a
workers-one days scene known others told also (w ∷ ws) (d ∷ ds) [] idle rest all are a b began one two = absurd b

-- ---- the main pass

-- as many notes at two fronts
notes-front : (ns ms : List ℕ) (rest behind : List CallEnd) → length ns ≡ length ms → flat_map notes ns ++ rest ≡ flat_map notes ms ++ behind → rest ≡ behind
notes-front [] [] rest behind long same = same
notes-front (n ∷ ns) (m ∷ ms) rest behind long same = notes-front ns ms rest behind (omega (arith, long)) (later-calls _ _ _ _ same)
notes-front [] (m ∷ ms) rest behind long same = absurd (omega (arith, long))
notes-front (n ∷ ns) [] rest behind long same = absurd (omega (arith, long))

-- what the main pass does in two groups of the same workers that did the same
main-one : (ns ms : List ℕ) (learnt rest behind : List CallEnd) → length ns ≡ length ms → (flat_map notes ns ++ learnt) ++ rest ≡ (flat_map notes ms ++ learnt) ++ behind
    → flat_map notes ns ++ learnt ≡ flat_map notes ms ++ learnt
main-one ns ms learnt rest behind long same =
    let front = sym (append_assoc (flat_map notes ns) learnt rest) ∙ same ∙ append_assoc (flat_map notes ms) learnt behind in
    let later : rest ≡ behind = append_cancel_left learnt rest behind (notes-front ns ms (learnt ++ rest) (learnt ++ behind) long front) in
    append_cancel_right (flat_map notes ns ++ learnt) (flat_map notes ms ++ learnt) rest (same ∙ ap (λ (x : List CallEnd). (flat_map notes ms ++ learnt) ++ x) (sym later))

-- ---- the group

group-one : DayHasOneText → (scene : Scene) (workers : List (List NumberedTree)) (old new before after : Progress) (text said : List ℕ) (rest behind : List CallEnd) (all : List (List CallEnd))
    → SameSoFar old before → RunsGroup scene workers old new text → RunsGroup scene workers before after said → new.main ++ rest ≡ after.main ++ behind → AllGoOn new.workers all → AllGoOn after.workers all
    → SameSoFar new after × (text ≡ said)
group-one days scene workers old new before after text said rest behind all are one two same mine theirs =
    let added = λ (worked : Worked). worked.added in
    let began = sym one.began ∙ are.workers ∙ two.began in
    let read = workers-one days scene old.books before.books _ _ workers one.did two.did one.idle two.idle all are.known one.each two.each began
    (subst (λ (x : List (List CallEnd)). AllGoOn x all) one.ended mine) (subst (λ (x : List (List CallEnd)). AllGoOn x all) two.ended theirs) in
    let learnt = learns_all 1 two.did in
    let made : new.main ≡ old.main ++ (flat_map notes one.noted ++ learnt) =
    one.main ∙ ap (λ (x : List Worked). old.main ++ (flat_map notes one.noted ++ learns_all 1 x)) read.0 in
    let also : after.main ≡ old.main ++ (flat_map notes two.noted ++ learnt) = two.main ∙ ap (λ (x : List CallEnd). x ++ (flat_map notes two.noted ++ learnt)) (sym are.main) in
    let front = sym (append_assoc old.main (flat_map notes one.noted ++ learnt) rest) ∙ sym (ap (λ (x : List CallEnd). x ++ rest) made) ∙ same
    ∙ ap (λ (x : List CallEnd). x ++ behind) also ∙ append_assoc old.main (flat_map notes two.noted ++ learnt) behind in
    let main = main-one one.noted two.noted learnt rest behind (one.one_each ∙ sym two.one_each) (append_cancel_left old.main _ _ front) in (
      record {
        known = record {
          names = one.books.names ∙ ap (λ (x : List Worked). with_added (flat_map added x) old.books.names) read.0
              ∙ ap (λ (ns : List Named). with_added (flat_map added two.did) ns) are.known.names ∙ sym two.books.names;
          folds = one.books.folds ∙ are.known.folds ∙ sym two.books.folds;
        };
        main = made ∙ ap (λ (x : List CallEnd). old.main ++ x) main ∙ sym also;
        workers = one.ended ∙ ap (λ (x : List Worked). map all_calls x ++ one.idle) read.0 ∙ ap (λ (x : List (List CallEnd)). map all_calls two.did ++ x) read.1 ∙ sym two.ended;
      },
      one.reply ∙ ap (λ (x : List Worked). group_text 1 x) read.0 ∙ sym two.reply,
    )

pub group-text-one : DayHasOneText → GroupIsOne
group-text-one days scene workers old new before after text said are one two main same =
    (group-one days scene workers old new before after text said [] [] new.workers are one two (ap (λ (x : List CallEnd). x ++ []) main) (all-stay new.workers)
    (subst (λ (x : List (List CallEnd)). AllGoOn after.workers x) (sym same) (all-stay after.workers))).1
