-- Conditions are read as they are printed.
use Rattle.std.proofs.Common.{ℕ, zero, suc, ◌≤◌, List, [], ◌∷◌, ◌++◌, append_assoc, arith}
use Rattle.smc_tokens.specs.declared.token.Token.{Token}
use Rattle.smc_tokens.specs.declared.token.Token.TheVariants.{Word, Sign}
use Rattle.smc_tokens.specs.declared.reserved.Reserved.TheVariants as words
use Rattle.smc_tokens.specs.declared.sign.Sign.TheVariants as signs
use Rattle.smc_query.specs.declared.cond.Op.{Op}
use Rattle.smc_query.specs.Trees.{ExprTree, CondTree, either, both, negation, comparison, within}
use Rattle.smc_query.specs.Grammar.{op_sign, ReadsNeg, a_negation, brackets, a_comparison, a_range, ReadsConj, one_neg, an_and, ReadsCond, one_conj, an_or}
use Rattle.smc_print.specs.Printed.{expr_tokens, cond_tokens, side_tokens, is_joined}
use Rattle.smc_print.specs.Depth.{cond_depth, grouped_depth}
use Rattle.smc_print.proofs.ExprPrints.{ExprPrints, expr_prints}

-- a condition is read where it is printed by itself, and where it is printed as an operand
pub record CondPrints (c : CondTree) : Type 0 where
  pub alone : (d : ℕ) (rest : List Token) → cond_depth c ≤ d → ReadsCond d (cond_tokens c ++ rest) c rest
  pub side : (d : ℕ) (rest : List Token) → grouped_depth (is_joined c) (cond_depth c) ≤ d → ReadsNeg d (side_tokens c ++ rest) c rest

-- what is read by itself is read in brackets
in_brackets_reads : (c : CondTree) → ((d : ℕ) (rest : List Token) → cond_depth c ≤ d → ReadsCond d (cond_tokens c ++ rest) c rest)
    → (d : ℕ) (rest : List Token) → suc (cond_depth c) ≤ d → ReadsNeg d (Sign signs.OpenBracket ∷ ((cond_tokens c ++ Sign signs.CloseBracket ∷ []) ++ rest)) c rest
in_brackets_reads c alone zero rest deep = absurd (omega arith)
in_brackets_reads c alone (suc d) rest deep = rw (append_assoc (cond_tokens c) (Sign signs.CloseBracket ∷ []) rest) (brackets (alone d (Sign signs.CloseBracket ∷ rest) (omega arith)))

either_alone : (b c : CondTree) → CondPrints b → CondPrints c → (d : ℕ) (rest : List Token) → cond_depth (either b c) ≤ d → ReadsCond d (cond_tokens (either b c) ++ rest) (either b c) rest
either_alone b c left right d rest deep =
    rw (append_assoc (side_tokens b) (Word words.Or ∷ side_tokens c) rest)
    (an_or (one_conj (one_neg (left.side d (Word words.Or ∷ (side_tokens c ++ rest)) (omega arith)))) (one_neg (right.side d rest (omega arith))))

both_alone : (b c : CondTree) → CondPrints b → CondPrints c → (d : ℕ) (rest : List Token) → cond_depth (both b c) ≤ d → ReadsCond d (cond_tokens (both b c) ++ rest) (both b c) rest
both_alone b c left right d rest deep =
    rw (append_assoc (side_tokens b) (Word words.And ∷ side_tokens c) rest)
    (one_conj (an_and (one_neg (left.side d (Word words.And ∷ (side_tokens c ++ rest)) (omega arith))) (right.side d rest (omega arith))))

negation_alone : (c : CondTree) → CondPrints c → (d : ℕ) (rest : List Token) → cond_depth (negation c) ≤ d → ReadsCond d (cond_tokens (negation c) ++ rest) (negation c) rest
negation_alone c of zero rest deep = absurd (omega arith)
negation_alone c of (suc d) rest deep = one_conj (one_neg (a_negation (of.side d rest (omega arith))))

comparison_reads : (op : Op) (a b : ExprTree) → ExprPrints a → ExprPrints b → (d : ℕ) (rest : List Token) → cond_depth (comparison op a b) ≤ d
    → ReadsNeg d (cond_tokens (comparison op a b) ++ rest) (comparison op a b) rest
comparison_reads op a b left right d rest deep =
    rw (append_assoc (expr_tokens a) (Sign (op_sign op) ∷ expr_tokens b) rest)
    (a_comparison (left.alone d (Sign (op_sign op) ∷ (expr_tokens b ++ rest)) (omega arith)) (right.alone d rest (omega arith)))

within_reads : (a b c : ExprTree) → ExprPrints a → ExprPrints b → ExprPrints c → (d : ℕ) (rest : List Token) → cond_depth (within a b c) ≤ d
    → ReadsNeg d (cond_tokens (within a b c) ++ rest) (within a b c) rest
within_reads a b c value low high d rest deep =
    rw (append_assoc (expr_tokens a) (Word words.Between ∷ (expr_tokens b ++ Word words.And ∷ expr_tokens c)) rest, append_assoc (expr_tokens b) (Word words.And ∷ expr_tokens c) rest)
    (a_range (value.alone d (Word words.Between ∷ (expr_tokens b ++ Word words.And ∷ (expr_tokens c ++ rest))) (omega arith)) (low.alone d (Word words.And ∷ (expr_tokens c ++ rest)) (omega arith)) (high.alone d rest (omega arith)))

mutual
  neg_prints : {d : ℕ} {s r : List Token} {c : CondTree} → ReadsNeg d s c r → CondPrints c
  neg_prints (a_negation {c = c} of) = let inner : CondPrints c = neg_prints of in record {
    alone = negation_alone c inner;
    side = in_brackets_reads (negation c) (negation_alone c inner);
  }
  neg_prints (brackets of) = cond_prints of
  neg_prints (a_comparison {op = op} {a = a} {b = b} left right) =
      let reads = comparison_reads op a b (expr_prints left) (expr_prints right) in
      record { alone = λ d rest deep. one_conj (one_neg (reads d rest deep)); side = reads }
  neg_prints (a_range {a = a} {b = b} {c = c} value low high) =
      let reads = within_reads a b c (expr_prints value) (expr_prints low) (expr_prints high) in
      record { alone = λ d rest deep. one_conj (one_neg (reads d rest deep)); side = reads }

  conj_prints : {d : ℕ} {s r : List Token} {c : CondTree} → ReadsConj d s c r → CondPrints c
  conj_prints (one_neg neg) = neg_prints neg
  conj_prints (an_and {b = b} {c = c} left right) = let one : CondPrints b = conj_prints left in let two : CondPrints c = neg_prints right in record {
    alone = both_alone b c one two;
    side = in_brackets_reads (both b c) (both_alone b c one two);
  }

  pub cond_prints : {d : ℕ} {s r : List Token} {c : CondTree} → ReadsCond d s c r → CondPrints c
  cond_prints (one_conj conj) = conj_prints conj
  cond_prints (an_or {b = b} {c = c} left right) = let one : CondPrints b = cond_prints left in let two : CondPrints c = conj_prints right in record {
    alone = either_alone b c one two;
    side = in_brackets_reads (either b c) (either_alone b c one two);
  }
