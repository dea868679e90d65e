-- What the tokens of a text spell, or where they stop being the front of one.
use Rattle.std.specs.Prelude.{◌≤◌, List, length, take, drop, Result}
use Rattle.std.specs.Result.{MatchResult}
use Rattle.smc_tokens.specs.declared.token.Placed.{Placed}
use Rattle.smc_query.specs.Trees.{Answer, Form}
use Rattle.smc_query.specs.Grammar.{Spells}
use Rattle.smc_query.specs.Faults.{IsWrongBehind, IsTooDeepBehind}
use Rattle.smc_parse.specs.declared.limits.TheConstants.{MAX_OPEN}
use Rattle.smc_parse.specs.declared.fault.Fault.{Fault}
use Rattle.smc_parse.specs.declared.fault.Fault.TheVariants.{Wrong, TooDeep, NoMemory}
use Rattle.smc_parse.specs.Reading.{tokens_of}

-- the tokens before a place can still become a text, and what stands there is wrong or opens too much
abbrev pub HasFault : Form → List Placed → Fault → Type 0
HasFault form placed (Wrong index) = (index ≤ length placed) × IsWrongBehind form MAX_OPEN (take index (tokens_of placed)) (drop index (tokens_of placed))
HasFault form placed (TooDeep index) = (index ≤ length placed) × IsTooDeepBehind form MAX_OPEN (take index (tokens_of placed)) (drop index (tokens_of placed))
HasFault form placed NoMemory = Unit {0}

-- all tokens spell the answer, or they have the fault
abbrev pub SpelledOrFault : {X : Type 0} → Form → (X → Answer) → List Placed → Result X Fault → Type 0
SpelledOrFault form answer_of placed result = MatchResult result (λ found. Spells form MAX_OPEN (tokens_of placed) (answer_of found)) (λ fault. HasFault form placed fault)
