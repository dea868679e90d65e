-- Expressions are read as they are printed.
use Rattle.std.proofs.Common.{ℕ, zero, suc, ◌≤◌, List, [], ◌∷◌, ◌++◌, append_assoc, arith}
use Rattle.smc_tokens.specs.declared.token.Token.{Token}
use Rattle.smc_tokens.specs.declared.token.Token.TheVariants.{Sign}
use Rattle.smc_tokens.specs.declared.sign.Sign.TheVariants as signs
use Rattle.smc_query.specs.Trees.{ExprTree, sum, difference, product, minus}
use Rattle.smc_query.specs.Grammar.{ReadsFactor, a_number, a_date, a_text, a_path, a_minus, parentheses, ReadsTerm, one_factor, a_product, ReadsExpr, one_term, a_sum, a_difference}
use Rattle.smc_print.specs.Printed.{expr_tokens, operand_tokens, is_compound}
use Rattle.smc_print.specs.Depth.{expr_depth, grouped_depth}
use Rattle.smc_print.proofs.ListPrints.{path_prints}

-- an expression is read where it is printed by itself, and where it is printed as an operand
pub record ExprPrints (a : ExprTree) : Type 0 where
  pub alone : (d : ℕ) (rest : List Token) → expr_depth a ≤ d → ReadsExpr d (expr_tokens a ++ rest) a rest
  pub operand : (d : ℕ) (rest : List Token) → grouped_depth (is_compound a) (expr_depth a) ≤ d → ReadsFactor d (operand_tokens a ++ rest) a rest

-- what is read by itself is read in parentheses
in_parentheses_reads : (a : ExprTree) → ((d : ℕ) (rest : List Token) → expr_depth a ≤ d → ReadsExpr d (expr_tokens a ++ rest) a rest)
    → (d : ℕ) (rest : List Token) → suc (expr_depth a) ≤ d → ReadsFactor d (Sign signs.Open ∷ ((expr_tokens a ++ Sign signs.Close ∷ []) ++ rest)) a rest
in_parentheses_reads a alone zero rest deep = absurd (omega arith)
in_parentheses_reads a alone (suc d) rest deep = rw (append_assoc (expr_tokens a) (Sign signs.Close ∷ []) rest) (parentheses (alone d (Sign signs.Close ∷ rest) (omega arith)))

sum_alone : (a b : ExprTree) → ExprPrints a → ExprPrints b → (d : ℕ) (rest : List Token) → expr_depth (sum a b) ≤ d → ReadsExpr d (expr_tokens (sum a b) ++ rest) (sum a b) rest
sum_alone a b left right d rest deep =
    rw (append_assoc (operand_tokens a) (Sign signs.Plus ∷ operand_tokens b) rest)
    (a_sum (one_term (one_factor (left.operand d (Sign signs.Plus ∷ (operand_tokens b ++ rest)) (omega arith)))) (one_factor (right.operand d rest (omega arith))))

difference_alone : (a b : ExprTree) → ExprPrints a → ExprPrints b → (d : ℕ) (rest : List Token) → expr_depth (difference a b) ≤ d → ReadsExpr d (expr_tokens (difference a b) ++ rest) (difference a b) rest
difference_alone a b left right d rest deep =
    rw (append_assoc (operand_tokens a) (Sign signs.Minus ∷ operand_tokens b) rest)
    (a_difference (one_term (one_factor (left.operand d (Sign signs.Minus ∷ (operand_tokens b ++ rest)) (omega arith)))) (one_factor (right.operand d rest (omega arith))))

product_alone : (a b : ExprTree) → ExprPrints a → ExprPrints b → (d : ℕ) (rest : List Token) → expr_depth (product a b) ≤ d → ReadsExpr d (expr_tokens (product a b) ++ rest) (product a b) rest
product_alone a b left right d rest deep =
    rw (append_assoc (operand_tokens a) (Sign signs.Star ∷ operand_tokens b) rest)
    (one_term (a_product (one_factor (left.operand d (Sign signs.Star ∷ (operand_tokens b ++ rest)) (omega arith))) (right.operand d rest (omega arith))))

minus_alone : (a : ExprTree) → ExprPrints a → (d : ℕ) (rest : List Token) → expr_depth (minus a) ≤ d → ReadsExpr d (expr_tokens (minus a) ++ rest) (minus a) rest
minus_alone a of zero rest deep = absurd (omega arith)
minus_alone a of (suc d) rest deep = one_term (one_factor (a_minus (of.operand d rest (omega arith))))

mutual
  factor_prints : {d : ℕ} {s r : List Token} {a : ExprTree} → ReadsFactor d s a r → ExprPrints a
  factor_prints (a_number {u = u} {k = k}) = record { alone = λ d rest deep. one_term (one_factor a_number); operand = λ d rest deep. a_number }
  factor_prints (a_date {y = y} {m = m} {a = a}) = record { alone = λ d rest deep. one_term (one_factor a_date); operand = λ d rest deep. a_date }
  factor_prints (a_text {b = b}) = record { alone = λ d rest deep. one_term (one_factor a_text); operand = λ d rest deep. a_text }
  factor_prints (a_path path) = record {
    alone = λ d rest deep. one_term (one_factor (a_path (path_prints path rest)));
    operand = λ d rest deep. a_path (path_prints path rest);
  }
  factor_prints (a_minus {a = a} of) = let inner : ExprPrints a = factor_prints of in record {
    alone = minus_alone a inner;
    operand = in_parentheses_reads (minus a) (minus_alone a inner);
  }
  factor_prints (parentheses of) = expr_prints of

  term_prints : {d : ℕ} {s r : List Token} {a : ExprTree} → ReadsTerm d s a r → ExprPrints a
  term_prints (one_factor factor) = factor_prints factor
  term_prints (a_product {a = a} {b = b} left right) = let one : ExprPrints a = term_prints left in let two : ExprPrints b = factor_prints right in record {
    alone = product_alone a b one two;
    operand = in_parentheses_reads (product a b) (product_alone a b one two);
  }

  pub expr_prints : {d : ℕ} {s r : List Token} {a : ExprTree} → ReadsExpr d s a r → ExprPrints a
  expr_prints (one_term term) = term_prints term
  expr_prints (a_sum {a = a} {b = b} left right) = let one : ExprPrints a = expr_prints left in let two : ExprPrints b = term_prints right in record {
    alone = sum_alone a b one two;
    operand = in_parentheses_reads (sum a b) (sum_alone a b one two);
  }
  expr_prints (a_difference {a = a} {b = b} left right) = let one : ExprPrints a = expr_prints left in let two : ExprPrints b = term_prints right in record {
    alone = difference_alone a b one two;
    operand = in_parentheses_reads (difference a b) (difference_alone a b one two);
  }
