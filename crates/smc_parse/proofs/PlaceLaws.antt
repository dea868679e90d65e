-- What the plan of a text makes of all its tokens, said of the grammar.
use Rattle.std.proofs.Common.{◌≡◌, ℕ, ◌≤◌, List, ◌++◌, length, take, drop, Result, Ok, Err, sym, ap, subst, ◌∙◌, arith}
use Rattle.std.proofs.Math.Seq.{take-append_seam}
use Rattle.std.proofs.lemmas.List.{length-append, length-drop, length-map}
use Rattle.smc_tokens.specs.declared.token.Token.{Token}
use Rattle.smc_tokens.specs.declared.token.Placed.{Placed}
use Rattle.smc_query.specs.Trees.{Answer, Form}
use Rattle.smc_query.specs.Faults.{IsWrongBehind, IsTooDeepBehind}
use Rattle.smc_query.specs.Machine.{stuck, too_deep, outcome, plan_of}
use Rattle.smc_query.proofs.StopLaws.{built-spells, stuck-is-wrong, deep-is-too-deep}
use Rattle.smc_parse.specs.declared.fault.Fault.{Fault}
use Rattle.smc_parse.specs.declared.fault.Fault.TheVariants.{Wrong, TooDeep, NoMemory}
use Rattle.smc_parse.specs.Reading.{tokens_of, ahead, StopsBy}
use Rattle.smc_parse.specs.Texts.{ReadsAll}
use Rattle.smc_parse.specs.Places.{HasFault, SpelledOrFault}

-- a list has one front before what is left of it
front-is : (s front : List Token) (i : ℕ) → i ≤ length s → s ≡ front ++ drop i s → front ≡ take i s
front-is s front i w e =
    let n : length front ≡ i = omega (arith, ap length e, length-append front (drop i s), length-drop i s) in
    let P : ℕ → Type 0 = λ m. take m (front ++ drop i s) ≡ front in sym (ap (take i) e ∙ subst P n (take-append_seam front (drop i s)))

within-tokens : (placed : List Placed) (i : ℕ) → i ≤ length placed → i ≤ length (tokens_of placed)
within-tokens placed i w = rw length-map w

wrong-behind : (form : Form) (placed : List Placed) (i : ℕ) → i ≤ length placed → outcome (plan_of form 63) (tokens_of placed) ≡ stuck (ahead placed i)
    → IsWrongBehind form 64 (take i (tokens_of placed)) (drop i (tokens_of placed))
unfolding ahead
wrong-behind form placed i w e =
    let (front, (is, h)) = stuck-is-wrong form 63 (tokens_of placed) (drop i (tokens_of placed)) e in
    let P : List Token → Type 0 = λ f. IsWrongBehind form 64 f (drop i (tokens_of placed)) in subst P (front-is (tokens_of placed) front i (within-tokens placed i w) is) h

deep-behind : (form : Form) (placed : List Placed) (i : ℕ) → i ≤ length placed → outcome (plan_of form 63) (tokens_of placed) ≡ too_deep (ahead placed i)
    → IsTooDeepBehind form 64 (take i (tokens_of placed)) (drop i (tokens_of placed))
unfolding ahead
deep-behind form placed i w e =
    let (front, (is, h)) = deep-is-too-deep form 63 (tokens_of placed) (drop i (tokens_of placed)) e in
    let P : List Token → Type 0 = λ f. IsTooDeepBehind form 64 f (drop i (tokens_of placed)) in subst P (front-is (tokens_of placed) front i (within-tokens placed i w) is) h

fault-of : (form : Form) (placed : List Placed) (fault : Fault) → StopsBy placed fault (outcome (plan_of form 63) (tokens_of placed)) → HasFault form placed fault
fault-of form placed (Wrong i) (w, e) = (w, wrong-behind form placed i w e)
fault-of form placed (TooDeep i) (w, e) = (w, deep-behind form placed i w e)
fault-of form placed NoMemory h = h

-- what is built is spelled, and where the plan stops the fault stands
pub spelled-or-fault : {X : Type 0} (form : Form) (answer_of : X → Answer) (placed : List Placed) (result : Result X Fault) → ReadsAll form answer_of placed result → SpelledOrFault form answer_of placed result
spelled-or-fault form answer_of placed (Ok found) h = built-spells form 63 (tokens_of placed) (answer_of found) h
spelled-or-fault form answer_of placed (Err fault) h = fault-of form placed fault h
