-- What a token makes of the plan of an expression.
use Rattle.std.proofs.Common.{◌≡◌, ℕ, ◌+◌, ◌≤◌, true, false, List, [], ◌∷◌, length, None, refl, arith}
use Rattle.smc_tokens.specs.declared.token.Token.{Token}
use Rattle.smc_tokens.specs.declared.token.Token.TheVariants.{Name, Word, Date, Number, Text, Sign as OfSign}
use Rattle.smc_tokens.specs.declared.reserved.Reserved.{Reserved}
use Rattle.smc_tokens.specs.declared.sign.Sign.{Sign}
use Rattle.smc_tokens.specs.declared.sign.Sign.TheVariants as signs
use Rattle.smc_tokens.specs.declared.token.Placed.{Placed}
use Rattle.smc_query.specs.Trees.{ExprTree, field, number, date, text, sum, difference, product, minus}
use Rattle.smc_query.specs.Machine.{Plan, must, path, factor, factors, term, terms, expr, goes, wrong, opened, outcome, step, ended, is_mark, sees}
use Rattle.smc_parse.specs.declared.fault.Fault.TheVariants.{Wrong}
use Rattle.smc_parse.specs.declared.expr.Joint.TheVariants.{Plus, Minus}
use Rattle.smc_parse.specs.Reading.{ahead, Stands, Leads, Stops, given}
use Rattle.smc_parse.specs.Chains.{HasTerm, HasNoTerm}
use Rattle.smc_parse.proofs.LeadLaws.{Chooses, Opens, leads-seen, leads-step, stops-step, stops-end, first-is}

-- ---- chains

pub factors-choose : (d : ℕ) (a : ExprTree) → Chooses (factors d a) (OfSign signs.Star) (λ k. factor d (λ b. factors d (product a b) k)) (given a)
unfolding step ended
factors-choose d a = record { steps = λ k t. refl; ends = λ k. refl }

plus-step : (d : ℕ) (a : ExprTree) (k : ExprTree → Plan) (t : Token) → is_mark (OfSign signs.Plus) t ≡ true → step (terms d a k) t ≡ goes (term d (λ b. terms d (sum a b) k))
unfolding step
plus-step d a k t e = rw e refl

minus-step : (d : ℕ) (a : ExprTree) (k : ExprTree → Plan) (t : Token) → is_mark (OfSign signs.Plus) t ≡ false → is_mark (OfSign signs.Minus) t ≡ true
    → step (terms d a k) t ≡ goes (term d (λ b. terms d (difference a b) k))
unfolding step
minus-step d a k t f e = rw (f, e) refl

pub has-plus : (placed : List Placed) (at : ℕ) → sees (OfSign signs.Plus) (ahead placed at) ≡ true → HasTerm Plus placed at
has-plus placed at e d a = leads-seen (terms d a) (λ k. term d (λ b. terms d (sum a b) k)) placed at (OfSign signs.Plus) e (λ k t s is m. plus-step d a k t m)

pub has-minus : (placed : List Placed) (at : ℕ) → sees (OfSign signs.Plus) (ahead placed at) ≡ false → sees (OfSign signs.Minus) (ahead placed at) ≡ true → HasTerm Minus placed at
has-minus placed at f e d a =
    leads-seen (terms d a) (λ k. term d (λ b. terms d (difference a b) k)) placed at (OfSign signs.Minus) e
    (λ k t s is m. minus-step d a k t (first-is (OfSign signs.Plus) t (ahead placed at) s false is f) m)

no-term : (d : ℕ) (a : ExprTree) (k : ExprTree → Plan) (s : List Token) → sees (OfSign signs.Plus) s ≡ false → sees (OfSign signs.Minus) s ≡ false → outcome (terms d a k) s ≡ outcome (k a) s
unfolding outcome step ended
no-term d a k [] f e = refl
no-term d a k (t ∷ s) f e = rw (f, e) refl

pub has-no-term : (placed : List Placed) (at : ℕ) → at ≤ length placed → sees (OfSign signs.Plus) (ahead placed at) ≡ false → sees (OfSign signs.Minus) (ahead placed at) ≡ false → HasNoTerm placed at
has-no-term placed at w f e d a = record { later = omega arith; within = w; goes = λ k. no-term d a k (ahead placed at) f e }

-- ---- factors

minus-opens : (d : ℕ) (k : ExprTree → Plan) (t : Token) → is_mark (OfSign signs.Minus) t ≡ true → step (factor d k) t ≡ opened d (λ e. factor e (λ a. k (minus a)))
unfolding step
minus-opens d k (OfSign signs.Minus) e = refl
minus-opens d k _ e = cc

pub factor-minus : (d : ℕ) → Opens (factor d) (OfSign signs.Minus) d (λ k e. factor e (λ a. k (minus a)))
factor-minus d = record { steps = minus-opens d }

open-opens : (d : ℕ) (k : ExprTree → Plan) (t : Token) → is_mark (OfSign signs.Open) t ≡ true → step (factor d k) t ≡ opened d (λ e. expr e (λ a. must (OfSign signs.Close) (k a)))
unfolding step
open-opens d k (OfSign signs.Open) e = refl
open-opens d k _ e = cc

pub factor-open : (d : ℕ) → Opens (factor d) (OfSign signs.Open) d (λ k e. expr e (λ a. must (OfSign signs.Close) (k a)))
factor-open d = record { steps = open-opens d }

number-step : (d u n : ℕ) (k : ExprTree → Plan) → step (factor d k) (Number u n) ≡ goes (k (number u n))
unfolding step
number-step d u n k = refl

pub number-leads : (placed : List Placed) (at d u n : ℕ) → Stands placed at (Number u n) → Leads (factor d) (given (number u n)) placed at (at + 1)
number-leads placed at d u n h = leads-step (factor d) (given (number u n)) placed at (Number u n) h (number-step d u n)

date-step : (d y m a : ℕ) (k : ExprTree → Plan) → step (factor d k) (Date y m a) ≡ goes (k (date y m a))
unfolding step
date-step d y m a k = refl

pub date-leads : (placed : List Placed) (at d y m a : ℕ) → Stands placed at (Date y m a) → Leads (factor d) (given (date y m a)) placed at (at + 1)
date-leads placed at d y m a h = leads-step (factor d) (given (date y m a)) placed at (Date y m a) h (date-step d y m a)

text-step : (d : ℕ) (b : List ℕ) (k : ExprTree → Plan) → step (factor d k) (Text b) ≡ goes (k (text b))
unfolding step
text-step d b k = refl

pub text-leads : (placed : List Placed) (at d : ℕ) (b : List ℕ) → Stands placed at (Text b) → Leads (factor d) (given (text b)) placed at (at + 1)
text-leads placed at d b h = leads-step (factor d) (given (text b)) placed at (Text b) h (text-step d b)

path-same : (d : ℕ) (k : ExprTree → Plan) (n : List ℕ) (s : List Token) → outcome (factor d k) (Name n ∷ s) ≡ outcome (path (λ p. k (field p))) (Name n ∷ s)
unfolding outcome step
path-same d k n s = refl

path-along : (d : ℕ) (k : ExprTree → Plan) (n : List ℕ) (s later : List Token) → s ≡ Name n ∷ later → outcome (factor d k) s ≡ outcome (path (λ p. k (field p))) s
path-along d k n s later e = rw e (path-same d k n later)

-- where a name stands, a factor is a path
pub field-leads : (placed : List Placed) (at d : ℕ) (n : List ℕ) → at ≤ length placed → Stands placed at (Name n) → Leads (factor d) (λ k. path (λ p. k (field p))) placed at at
field-leads placed at d n w h = record { later = omega arith; within = w; goes = λ k. path-along d k n (ahead placed at) (ahead placed (at + 1)) h.is }

word-wrong : (d : ℕ) (w : Reserved) (k : ExprTree → Plan) → step (factor d k) (Word w) ≡ wrong
unfolding step
word-wrong d w k = refl

pub word-stops : (placed : List Placed) (at d : ℕ) (w : Reserved) → at ≤ length placed → Stands placed at (Word w) → Stops (factor d) placed at (Wrong at)
word-stops placed at d w i h = stops-step (factor d) placed at (Word w) i h (word-wrong d w)

sign-wrong : (d : ℕ) (g : Sign) → is_mark (OfSign signs.Minus) (OfSign g) ≡ false → is_mark (OfSign signs.Open) (OfSign g) ≡ false → (k : ExprTree → Plan) → step (factor d k) (OfSign g) ≡ wrong
unfolding step
sign-wrong d signs.Minus e f k = cc
sign-wrong d signs.Open e f k = cc
sign-wrong d _ e f k = refl

pub sign-stops : (placed : List Placed) (at d : ℕ) (g : Sign) → at ≤ length placed → Stands placed at (OfSign g) → sees (OfSign signs.Minus) (ahead placed at) ≡ false → sees (OfSign signs.Open) (ahead placed at) ≡ false
    → Stops (factor d) placed at (Wrong at)
sign-stops placed at d g w h e f =
    stops-step (factor d) placed at (OfSign g) w h
    (sign-wrong d g (first-is (OfSign signs.Minus) (OfSign g) (ahead placed at) (ahead placed (at + 1)) false h.is e)
    (first-is (OfSign signs.Open) (OfSign g) (ahead placed at) (ahead placed (at + 1)) false h.is f))

factor-ended : (d : ℕ) (k : ExprTree → Plan) → ended (factor d k) ≡ None
unfolding ended
factor-ended d k = refl

pub factor-end : (placed : List Placed) (at d : ℕ) → at ≤ length placed → ahead placed at ≡ [] → Stops (factor d) placed at (Wrong at)
factor-end placed at d w e = stops-end (factor d) placed at w e (factor-ended d)
