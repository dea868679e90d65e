-- What a token makes of the plan of a call.
use Rattle.std.proofs.Common.{◌≡◌, ℕ, ◌+◌, ◌≤◌, true, false, List, [], ◌∷◌, length, refl}
use Rattle.smc_tokens.specs.declared.token.Token.{Token}
use Rattle.smc_tokens.specs.declared.token.Token.TheVariants.{Word as OfWord, Sign as OfSign}
use Rattle.smc_tokens.specs.declared.reserved.Reserved.{Reserved}
use Rattle.smc_tokens.specs.declared.reserved.Reserved.TheVariants as words
use Rattle.smc_tokens.specs.declared.sign.Sign.TheVariants as signs
use Rattle.smc_tokens.specs.declared.token.Placed.{Placed}
use Rattle.smc_query.specs.Trees.{Aggregate, total, average, least, greatest, CallTree, count, aggregate, fold}
use Rattle.smc_query.specs.Grammar.{aggregate_word}
use Rattle.smc_query.specs.Machine.{Plan, must, name, argument, call, goes, stuck, outcome, step, ended, is_mark, sees}
use Rattle.smc_parse.specs.declared.fault.Fault.TheVariants.{Wrong}
use Rattle.smc_parse.specs.Reading.{ahead, Stands, Leads, Stops}
use Rattle.smc_parse.specs.Calls.{aggregates_none, aggregates_none_first}
use Rattle.smc_parse.proofs.LeadLaws.{leads-seen, leads-step}

count-step : (d : ℕ) (k : CallTree → Plan) (t : Token) → is_mark (OfWord words.Count) t ≡ true → step (call d k) t ≡ goes (must (OfSign signs.Open) (must (OfSign signs.Close) (k count)))
unfolding step
count-step d k (OfWord words.Count) e = refl
count-step d k _ e = cc

pub count-leads : (placed : List Placed) (at d : ℕ) → sees (OfWord words.Count) (ahead placed at) ≡ true → Leads (call d) (λ k. must (OfSign signs.Open) (must (OfSign signs.Close) (k count))) placed at (at + 1)
count-leads placed at d e = leads-seen (call d) (λ k. must (OfSign signs.Open) (must (OfSign signs.Close) (k count))) placed at (OfWord words.Count) e (λ k t s is m. count-step d k t m)

fold-step : (d : ℕ) (k : CallTree → Plan) (t : Token) → is_mark (OfWord words.Fold) t ≡ true → step (call d k) t ≡ goes (name (λ n. argument d (λ a. k (fold n a))))
unfolding step
fold-step d k (OfWord words.Fold) e = refl
fold-step d k _ e = cc

pub fold-leads : (placed : List Placed) (at d : ℕ) → sees (OfWord words.Fold) (ahead placed at) ≡ true → Leads (call d) (λ k. name (λ n. argument d (λ a. k (fold n a)))) placed at (at + 1)
fold-leads placed at d e = leads-seen (call d) (λ k. name (λ n. argument d (λ a. k (fold n a)))) placed at (OfWord words.Fold) e (λ k t s is m. fold-step d k t m)

aggregate-step : (d : ℕ) (g : Aggregate) (k : CallTree → Plan) → step (call d k) (OfWord (aggregate_word g)) ≡ goes (argument d (λ a. k (aggregate g a)))
unfolding step
aggregate-step d total k = refl
aggregate-step d average k = refl
aggregate-step d least k = refl
aggregate-step d greatest k = refl

pub aggregate-leads : (placed : List Placed) (at d : ℕ) (g : Aggregate) → Stands placed at (OfWord (aggregate_word g)) → Leads (call d) (λ k. argument d (λ a. k (aggregate g a))) placed at (at + 1)
aggregate-leads placed at d g h = leads-step (call d) (λ k. argument d (λ a. k (aggregate g a))) placed at (OfWord (aggregate_word g)) h (aggregate-step d g)

word-none : (d : ℕ) (k : CallTree → Plan) (w : Reserved) (s : List Token) → is_mark (OfWord words.Count) (OfWord w) ≡ false → is_mark (OfWord words.Fold) (OfWord w) ≡ false → aggregates_none w ≡ true
    → outcome (call d k) (OfWord w ∷ s) ≡ stuck (OfWord w ∷ s)
unfolding outcome step
word-none d k words.Count s e f h = cc
word-none d k words.Fold s e f h = cc
word-none d k words.Sum s e f h = cc
word-none d k words.Avg s e f h = cc
word-none d k words.Min s e f h = cc
word-none d k words.Max s e f h = cc
word-none d k _ s e f h = refl

call-none : (d : ℕ) (k : CallTree → Plan) (s : List Token) → sees (OfWord words.Count) s ≡ false → sees (OfWord words.Fold) s ≡ false → aggregates_none_first s ≡ true → outcome (call d k) s ≡ stuck s
unfolding outcome step ended
call-none d k [] e f h = refl
call-none d k (OfWord w ∷ s) e f h = word-none d k w s e f h
call-none d k (_ ∷ s) e f h = refl

-- of anything else no call begins
pub call-stops : (placed : List Placed) (at d : ℕ) → at ≤ length placed → sees (OfWord words.Count) (ahead placed at) ≡ false → sees (OfWord words.Fold) (ahead placed at) ≡ false
    → aggregates_none_first (ahead placed at) ≡ true → Stops (call d) placed at (Wrong at)
call-stops placed at d w e f h k = (w, call-none d k (ahead placed at) e f h)
