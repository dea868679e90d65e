-- The calls of a command are read off from the front of a trace.
use Rattle.std.proofs.Common.{◌≡◌, ℕ, Some, None, List, [], ◌∷◌, ◌++◌, length, refl, sym, ap, ◌∙◌, append_assoc}
use Rattle.smc_model.specs.declared.event.Event.TheVariants as event
use Rattle.smc_core.specs.declared.done.Done.TheVariants as done
use Rattle.smc_core.specs.declared.local.Held.{Held}
use Rattle.smc_trace.specs.Named.{begins, comes_to, enters, leaves}
use Rattle.smc_trace.specs.Trace.{CallEnd}
use Rattle.smc_objects.specs.Alone.{CountsObjects, InSection, visits_all}
use Rattle.smc_visits.proofs.FrontLaws.{first-done, first-event, later-calls, same-held, visit-is-no-end, visit-number, visit-slot}
use Rattle.smc_replies.specs.Commands.{Counts}
use Rattle.smc_replies.proofs.Replied.{IsOneReply}

at-epoch : (epoch other : ℕ) → done.At epoch ≡ done.At other → epoch ≡ other
at-epoch epoch other is = cc

begun-scan : (scan other coll : ℕ) → Some (event.Begin scan coll) ≡ Some (event.Begin other coll) → scan ≡ other
begun-scan scan other coll is = cc

-- the visits of two scans at one front are the same, where each scan comes to its end behind them
visits-front : (scan scan' : ℕ) (met met' : List Held) (rest behind : List CallEnd)
    → visits_all scan met ++ (comes_to scan None ++ rest) ≡ visits_all scan' met' ++ (comes_to scan' None ++ behind) → (met ≡ met') × (rest ≡ behind)
visits-front scan scan' [] [] rest behind same = (refl, later-calls _ _ _ _ same)
visits-front scan scan' [] (y ∷ ys) rest behind same = absurd (visit-is-no-end y.number y.slot (sym (first-done _ _ _ _ same)))
visits-front scan scan' (x ∷ xs) [] rest behind same = absurd (visit-is-no-end x.number x.slot (first-done _ _ _ _ same))
visits-front scan scan' (x ∷ xs) (y ∷ ys) rest behind same =
    let answer : done.Visit x.number x.slot ≡ done.Visit y.number y.slot = first-done _ _ _ _ same in
    let one : x ≡ y = same-held x y (visit-number _ _ _ _ answer) (visit-slot _ _ _ _ answer) in
    let later : (xs ≡ ys) × (rest ≡ behind) = visits-front scan scan' xs ys rest behind (later-calls _ _ _ _ same) in
    let met : (x ∷ xs) ≡ (y ∷ ys) = ap (λ (v : Held). v ∷ xs) one ∙ ap (λ (vs : List Held). y ∷ vs) later.0 in
    (met, later.1)

-- a whole scan in its section
whole : ℕ → ℕ → ℕ → List Held → List CallEnd
whole epoch scan coll met = enters epoch ++ ((begins scan coll ++ (visits_all scan met ++ comes_to scan None)) ++ leaves)

-- it is read off from the front
pub record IsOneScan (first other rest behind : List CallEnd) (met met' : List Held) : Type 0 where
  pub calls : first ≡ other
  pub later : rest ≡ behind
  pub visits : met ≡ met'

flat : (visits ends ends' rest : List CallEnd) → ((visits ++ ends) ++ ends') ++ rest ≡ visits ++ (ends ++ (ends' ++ rest))
flat visits ends ends' rest = append_assoc (visits ++ ends) ends' rest ∙ append_assoc visits ends (ends' ++ rest)

whole-front : (epoch epoch' scan scan' coll : ℕ) (met met' : List Held) (rest behind : List CallEnd)
    → whole epoch scan coll met ++ rest ≡ whole epoch' scan' coll met' ++ behind
    → IsOneScan (whole epoch scan coll met) (whole epoch' scan' coll met') rest behind met met'
unfolding whole
whole-front epoch epoch' scan scan' coll met met' rest behind same =
    let one : epoch ≡ epoch' = at-epoch _ _ (first-done _ _ _ _ same) in
    let below = later-calls _ _ _ _ same in
    let two : scan ≡ scan' = begun-scan _ _ coll (first-event _ _ _ _ below) in
    let inner : visits_all scan met ++ (comes_to scan None ++ (leaves ++ rest)) ≡ visits_all scan' met' ++ (comes_to scan' None ++ (leaves ++ behind)) =
    sym (flat (visits_all scan met) (comes_to scan None) leaves rest) ∙ later-calls _ _ _ _ below ∙ flat (visits_all scan' met') (comes_to scan' None) leaves behind in
    let three : (met ≡ met') × (leaves ++ rest ≡ leaves ++ behind) = visits-front scan scan' met met' (leaves ++ rest) (leaves ++ behind) inner in
    record {
      calls = ap (λ (e : ℕ). whole e scan coll met) one ∙ ap (λ (k : ℕ). whole epoch' k coll met) two ∙ ap (λ (m : List Held). whole epoch' scan' coll m) three.0;
      later = later-calls _ _ _ _ three.1;
      visits = three.0;
    }

made-whole : (coll count : ℕ) (calls : List CallEnd) (s : InSection (CountsObjects coll count) calls) → calls ≡ whole s.epoch s.holds.scan coll s.holds.visits
unfolding whole
made-whole coll count calls s = s.made ∙ ap (λ (x : List CallEnd). enters s.epoch ++ (x ++ leaves)) s.holds.made

pub scans-front : (coll count count' : ℕ) (first other rest behind : List CallEnd) (one : InSection (CountsObjects coll count) first) (two : InSection (CountsObjects coll count') other)
    → first ++ rest ≡ other ++ behind → IsOneScan first other rest behind one.holds.visits two.holds.visits
scans-front coll count count' first other rest behind one two same =
    let f : first ≡ whole one.epoch one.holds.scan coll one.holds.visits = made-whole coll count first one in
    let o : other ≡ whole two.epoch two.holds.scan coll two.holds.visits = made-whole coll count' other two in
    let is : whole one.epoch one.holds.scan coll one.holds.visits ++ rest ≡ whole two.epoch two.holds.scan coll two.holds.visits ++ behind =
    ap (λ (x : List CallEnd). x ++ rest) (sym f) ∙ same ∙ ap (λ (x : List CallEnd). x ++ behind) o in
    let read = whole-front one.epoch two.epoch one.holds.scan two.holds.scan coll one.holds.visits two.holds.visits rest behind is in
    record { calls = f ∙ read.calls ∙ sym o; later = read.later; visits = read.visits }

pub counts-one : (line : ℕ → List ℕ) (coll : ℕ) (first other rest behind : List CallEnd) (text said : List ℕ) → Counts line coll first text → Counts line coll other said → first ++ rest ≡ other ++ behind
    → IsOneReply rest behind text said
counts-one line coll first other rest behind text said one two same =
    let read = scans-front coll one.count two.count first other rest behind one.counts two.counts same in
    let many : one.count ≡ two.count = sym one.counts.holds.counted ∙ ap (λ (m : List Held). length m) read.visits ∙ two.counts.holds.counted in
    (read.later, one.reply ∙ ap line many ∙ sym two.reply)
