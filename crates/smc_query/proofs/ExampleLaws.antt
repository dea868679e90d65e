-- The short texts, computed.
use Rattle.std.proofs.Common.{◌≡◌, ℕ, suc, List, drop, refl, None}
use Rattle.smc_tokens.specs.declared.token.Token.{Token}
use Rattle.smc_query.specs.Trees.{number, minus, an_edit, Answer, Form, query_text, cond_text, edit_text}
use Rattle.smc_query.specs.Grammar.{Spells}
use Rattle.smc_query.specs.Machine.{built, stuck, too_deep, outcome, plan_of, step, ended}
use Rattle.smc_query.specs.Examples.{regions_text, regions_query, left_text, left_edit, right_text, right_edit, chain_text, chain_cond, word_text, half_text, minus_text, CountsRegions, PairsFromTheLeft, PairsInParentheses, BindsAndCloser, KeepsItsWords, CountsWholeRows, NestsTwice}
use Rattle.smc_query.proofs.StopLaws.{built-spells, spelled-exactly}

stuck-refuses : (form : Form) (d : ℕ) (s r : List Token) (a : Answer) → outcome (plan_of form d) s ≡ stuck r → Spells form (suc d) s a → ⊥
stuck-refuses form d s r a e h = let g : outcome (plan_of form d) s ≡ built a = spelled-exactly form d s a h in cc

deep-refuses : (form : Form) (d : ℕ) (s r : List Token) (a : Answer) → outcome (plan_of form d) s ≡ too_deep r → Spells form (suc d) s a → ⊥
deep-refuses form d s r a e h = let g : outcome (plan_of form d) s ≡ built a = spelled-exactly form d s a h in cc

pub counts-regions : CountsRegions
unfolding outcome step ended
counts-regions = built-spells query_text 63 regions_text regions_query refl

pub pairs-from-the-left : PairsFromTheLeft
unfolding outcome step ended
pairs-from-the-left = built-spells edit_text 63 left_text left_edit refl

pub pairs-in-parentheses : PairsInParentheses
unfolding outcome step ended
pairs-in-parentheses = built-spells edit_text 63 right_text right_edit refl

pub binds-and-closer : BindsAndCloser
unfolding outcome step ended
binds-and-closer = built-spells cond_text 63 chain_text chain_cond refl

pub keeps-its-words : KeepsItsWords
unfolding outcome step ended
keeps-its-words (a, h) = stuck-refuses query_text 63 word_text (drop 1 word_text) a refl h

pub counts-whole-rows : CountsWholeRows
unfolding outcome step ended
counts-whole-rows (a, h) = stuck-refuses query_text 63 half_text (drop 7 half_text) a refl h

abbrev minus_edit : Answer
minus_edit = an_edit (minus (minus (number 1 0))) None

pub nests-twice : NestsTwice
unfolding outcome step ended
nests-twice = ((minus_edit, built-spells edit_text 1 minus_text minus_edit refl), λ (a, h). deep-refuses edit_text 0 minus_text (drop 1 minus_text) a refl h)
