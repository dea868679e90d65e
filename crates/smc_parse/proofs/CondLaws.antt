-- What a token makes of the plan of a condition.
use Rattle.std.proofs.Common.{◌≡◌, ℕ, ◌+◌, ◌≤◌, true, false, List, [], ◌∷◌, length, refl, arith}
use Rattle.smc_tokens.specs.declared.token.Token.{Token}
use Rattle.smc_tokens.specs.declared.token.Token.TheVariants.{Word as OfWord, Sign as OfSign}
use Rattle.smc_tokens.specs.declared.reserved.Reserved.{Reserved}
use Rattle.smc_tokens.specs.declared.reserved.Reserved.TheVariants as words
use Rattle.smc_tokens.specs.declared.sign.Sign.{Sign}
use Rattle.smc_tokens.specs.declared.sign.Sign.TheVariants as signs
use Rattle.smc_tokens.specs.declared.token.Placed.{Placed}
use Rattle.smc_query.specs.declared.cond.Op.{Op}
use Rattle.smc_query.specs.declared.cond.Op.TheVariants as ops
use Rattle.smc_query.specs.Trees.{ExprTree, CondTree, either, both, negation, comparison, within}
use Rattle.smc_query.specs.Grammar.{op_sign}
use Rattle.smc_query.specs.Machine.{Plan, must, expr, compared, neg, negs, conj, conjs, cond, goes, opened, stuck, outcome, step, ended, is_mark, sees}
use Rattle.smc_parse.specs.declared.fault.Fault.TheVariants.{Wrong}
use Rattle.smc_parse.specs.Reading.{ahead, Stands, Leads, Stops, given}
use Rattle.smc_parse.specs.Chains.{compares_none, compares_none_first}
use Rattle.smc_parse.proofs.LeadLaws.{Chooses, Opens, leads-seen, leads-step}

-- ---- chains

pub negs-choose : (d : ℕ) (b : CondTree) → Chooses (negs d b) (OfWord words.And) (λ k. neg d (λ c. negs d (both b c) k)) (given b)
unfolding step ended
negs-choose d b = record { steps = λ k t. refl; ends = λ k. refl }

pub conjs-choose : (d : ℕ) (b : CondTree) → Chooses (conjs d b) (OfWord words.Or) (λ k. conj d (λ c. conjs d (either b c) k)) (given b)
unfolding step ended
conjs-choose d b = record { steps = λ k t. refl; ends = λ k. refl }

-- ---- what opens

not-opens : (d : ℕ) (k : CondTree → Plan) (t : Token) → is_mark (OfWord words.Not) t ≡ true → step (neg d k) t ≡ opened d (λ e. neg e (λ c. k (negation c)))
unfolding step
not-opens d k (OfWord words.Not) e = refl
not-opens d k _ e = cc

pub neg-not : (d : ℕ) → Opens (neg d) (OfWord words.Not) d (λ k e. neg e (λ c. k (negation c)))
neg-not d = record { steps = not-opens d }

bracket-opens : (d : ℕ) (k : CondTree → Plan) (t : Token) → is_mark (OfSign signs.OpenBracket) t ≡ true → step (neg d k) t ≡ opened d (λ e. cond e (λ c. must (OfSign signs.CloseBracket) (k c)))
unfolding step
bracket-opens d k (OfSign signs.OpenBracket) e = refl
bracket-opens d k _ e = cc

pub neg-bracket : (d : ℕ) → Opens (neg d) (OfSign signs.OpenBracket) d (λ k e. cond e (λ c. must (OfSign signs.CloseBracket) (k c)))
neg-bracket d = record { steps = bracket-opens d }

-- ---- comparisons

compared-same : (d : ℕ) (k : CondTree → Plan) (t : Token) → is_mark (OfWord words.Not) t ≡ false → is_mark (OfSign signs.OpenBracket) t ≡ false → step (neg d k) t ≡ step (expr d (λ a. compared d a k)) t
unfolding step
compared-same d k (OfWord words.Not) e f = cc
compared-same d k (OfSign signs.OpenBracket) e f = cc
compared-same d k _ e f = refl

comparison-is : (d : ℕ) (k : CondTree → Plan) (s : List Token) → sees (OfWord words.Not) s ≡ false → sees (OfSign signs.OpenBracket) s ≡ false → outcome (neg d k) s ≡ outcome (expr d (λ a. compared d a k)) s
unfolding outcome ended
comparison-is d k [] e f = refl
comparison-is d k (t ∷ s) e f = rw (compared-same d k t e f) refl

-- what opens no condition is an expression, compared
pub comparison-leads : (placed : List Placed) (at d : ℕ) → at ≤ length placed → sees (OfWord words.Not) (ahead placed at) ≡ false → sees (OfSign signs.OpenBracket) (ahead placed at) ≡ false
    → Leads (neg d) (λ k. expr d (λ a. compared d a k)) placed at at
comparison-leads placed at d w e f = record { later = omega arith; within = w; goes = λ k. comparison-is d k (ahead placed at) e f }

op-step : (d : ℕ) (op : Op) (a : ExprTree) (k : CondTree → Plan) → step (compared d a k) (OfSign (op_sign op)) ≡ goes (expr d (λ b. k (comparison op a b)))
unfolding step
op-step d ops.Equal a k = refl
op-step d ops.Unequal a k = refl
op-step d ops.Less a k = refl
op-step d ops.LessEqual a k = refl
op-step d ops.Greater a k = refl
op-step d ops.GreaterEqual a k = refl

-- behind the sign of a comparison comes its right side
pub op-leads : (placed : List Placed) (at d : ℕ) (op : Op) (a : ExprTree) → Stands placed at (OfSign (op_sign op)) → Leads (compared d a) (λ k. expr d (λ b. k (comparison op a b))) placed at (at + 1)
op-leads placed at d op a h = leads-step (compared d a) (λ k. expr d (λ b. k (comparison op a b))) placed at (OfSign (op_sign op)) h (op-step d op a)

between-step : (d : ℕ) (a : ExprTree) (k : CondTree → Plan) (t : Token) → is_mark (OfWord words.Between) t ≡ true → step (compared d a k) t ≡ goes (expr d (λ b. must (OfWord words.And) (expr d (λ c. k (within a b c)))))
unfolding step
between-step d a k (OfWord words.Between) e = refl
between-step d a k _ e = cc

-- behind `between` come the ends of a range
pub between-leads : (placed : List Placed) (at d : ℕ) (a : ExprTree) → sees (OfWord words.Between) (ahead placed at) ≡ true
    → Leads (compared d a) (λ k. expr d (λ b. must (OfWord words.And) (expr d (λ c. k (within a b c))))) placed at (at + 1)
between-leads placed at d a e = leads-seen (compared d a) (λ k. expr d (λ b. must (OfWord words.And) (expr d (λ c. k (within a b c))))) placed at (OfWord words.Between) e (λ k t s is m. between-step d a k t m)

sign-none : (d : ℕ) (a : ExprTree) (k : CondTree → Plan) (g : Sign) (s : List Token) → compares_none g ≡ true → outcome (compared d a k) (OfSign g ∷ s) ≡ stuck (OfSign g ∷ s)
unfolding outcome step
sign-none d a k signs.Equal s e = cc
sign-none d a k signs.Unequal s e = cc
sign-none d a k signs.Less s e = cc
sign-none d a k signs.LessEqual s e = cc
sign-none d a k signs.Greater s e = cc
sign-none d a k signs.GreaterEqual s e = cc
sign-none d a k _ s e = refl

word-none : (d : ℕ) (a : ExprTree) (k : CondTree → Plan) (w : Reserved) (s : List Token) → is_mark (OfWord words.Between) (OfWord w) ≡ false → outcome (compared d a k) (OfWord w ∷ s) ≡ stuck (OfWord w ∷ s)
unfolding outcome step
word-none d a k words.Between s e = cc
word-none d a k _ s e = refl

compared-none : (d : ℕ) (a : ExprTree) (k : CondTree → Plan) (s : List Token) → sees (OfWord words.Between) s ≡ false → compares_none_first s ≡ true → outcome (compared d a k) s ≡ stuck s
unfolding outcome step ended
compared-none d a k [] e f = refl
compared-none d a k (OfSign g ∷ s) e f = sign-none d a k g s f
compared-none d a k (OfWord w ∷ s) e f = word-none d a k w s e
compared-none d a k (_ ∷ s) e f = refl

-- behind the left side of a comparison anything else is wrong
pub compared-stops : (placed : List Placed) (at d : ℕ) (a : ExprTree) → at ≤ length placed → sees (OfWord words.Between) (ahead placed at) ≡ false → compares_none_first (ahead placed at) ≡ true → Stops (compared d a) placed at (Wrong at)
compared-stops placed at d a w e f k = (w, compared-none d a k (ahead placed at) e f)
