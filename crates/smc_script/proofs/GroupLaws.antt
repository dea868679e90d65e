-- The groups that were read are whole: few workers, each with commands that a worker may do.
use Rattle.std.proofs.Common.{◌≡◌, ◌<◌, arith, ℕ, List, [], ◌∷◌, ◌++◌, length, true, false, Option, None, Some, refl, subst}
use Rattle.std.proofs.lemmas.Bool.{leb-false, ltb-true}
use Rattle.std.proofs.lemmas.List.{length-append}
use Rattle.std.specs.List.{AllByRecursion}
use Rattle.std.specs.Prelude.{⊤, IfSome, nat_le}
use Rattle.smc_query.specs.Trees.{Word}
use Rattle.smc_types.specs.declared.catalog.Catalog.{Catalog}
use Rattle.smc_script.specs.Faults.{group_fault, many_fault, may_stand}
use Rattle.smc_script.specs.Names.{Naming}
use Rattle.smc_script.specs.Says.{SaidTree, room, load, add, get, set, remove, delete, update, query, compact, stat, drop_fold, group, worker, end}
use Rattle.smc_script.specs.Sound.{HasCommand, IsGroup, IsWhole, MayWork}
use Rattle.smc_script.specs.States.{ReadState, GroupState, outside, begun, working, after, command_said, dropped_after, names_after, with_command, with_numbered, workers_of}
use Rattle.smc_script.specs.Trees.{CommandTree, NumberedTree, one}
use Rattle.smc_script.specs.Trees as trees
use Rattle.smc_script.specs.declared.fault.ScriptKind.TheVariants.{Group, TooMany}
use Rattle.smc_script.specs.declared.limits.TheConstants.{MAX_WORKERS}
use Rattle.smc_script.proofs.PlacedLaws.{all-more, denied-none, work-more}
use Rattle.smc_script.proofs.StateLaws.{fault-none}

-- a worker may do each of these
abbrev IsWork : List NumberedTree → Type 0
IsWork commands = AllByRecursion (λ (n : NumberedTree). MayWork n.command) commands

-- the open group can become a whole one
abbrev pub Grows : GroupState → Type 0
Grows outside = ⊤
Grows begun = ⊤
Grows (working workers commands) = (length workers < MAX_WORKERS) × AllByRecursion HasCommand workers × AllByRecursion IsWork (workers ++ commands ∷ [])

-- the groups that were read are whole, and the open one can become so
pub record IsGrouped (state : ReadState) : Type 0 where
  pub whole : AllByRecursion IsWhole state.parts
  pub grows : Grows state.group

-- where a group has a worker, a worker may do this
abbrev MayBe : GroupState → CommandTree → Type 0
MayBe outside command = ⊤
MayBe begun command = ⊤
MayBe (working workers commands) command = MayWork command

-- ---- commands

-- what holds of all holds of one that there may be
some-all : {A : Type 0} (P : A → Type 0) → ((a : A) → P a) → (o : Option A) → IfSome o P
some-all P all (Some a) = all a
some-all P all None = tt

-- a command of a worker that may stand there is one that a worker may do
worker-may : (catalog : Catalog) (state : ReadState) (workers : List (List NumberedTree)) (commands : List NumberedTree) (said : SaidTree)
    → may_stand (working workers commands) said ≡ true → IfSome (command_said catalog state said) MayWork
worker-may catalog state workers commands (room table slots) is = absurd cc
worker-may catalog state workers commands (load table file) is = absurd cc
worker-may catalog state workers commands (add table name row) is = tt
worker-may catalog state workers commands (get name) is = tt
worker-may catalog state workers commands (set name column (Some value)) is = tt
worker-may catalog state workers commands (set name column None) is = tt
worker-may catalog state workers commands (remove name) is = tt
worker-may catalog state workers commands (delete table cond) is = tt
worker-may catalog state workers commands (update table column value filter) is = tt
worker-may catalog state workers commands (query tree) is = is
worker-may catalog state workers commands (compact table) is = tt
worker-may catalog state workers commands (stat table) is = tt
worker-may catalog state workers commands (drop_fold name) is = absurd cc
worker-may catalog state workers commands group is = absurd cc
worker-may catalog state workers commands worker is = tt
worker-may catalog state workers commands end is = tt

stands-may : (catalog : Catalog) (state : ReadState) (group' : GroupState) (said : SaidTree) → may_stand group' said ≡ true → IfSome (command_said catalog state said) (MayBe group')
stands-may catalog state outside said is = some-all (MayBe outside) (λ command. tt) (command_said catalog state said)
stands-may catalog state begun said is = some-all (MayBe begun) (λ command. tt) (command_said catalog state said)
stands-may catalog state (working workers commands) said is = worker-may catalog state workers commands said is

-- one more command leaves the groups whole
numbered-grouped : (state : ReadState) (group' : GroupState) (names : Naming) (dropped : List Word) (numbered : NumberedTree) → state.group ≡ group' → IsGrouped state
    → MayBe group' numbered.command → IsGrouped (with_numbered (record state { names = names; dropped = dropped }) group' numbered)
numbered-grouped state outside names dropped numbered at grouped may = record { whole = all-more IsWhole state.parts (one numbered) grouped.whole tt; grows = grouped.grows }
numbered-grouped state begun names dropped numbered at grouped may = record { whole = all-more IsWhole state.parts (one numbered) grouped.whole tt; grows = grouped.grows }
numbered-grouped state (working workers commands) names dropped numbered at grouped may =
    let grows : Grows (working workers commands) = subst Grows at grouped.grows in record {
      whole = grouped.whole;
      grows = (grows.0, grows.1, work-more (λ (n : NumberedTree). MayWork n.command) workers commands numbered grows.2 may);
    }

command-grouped : (state : ReadState) (names : Naming) (dropped : List Word) (line : ℕ) (command : Option CommandTree) → IsGrouped state → IfSome command (MayBe state.group)
    → IsGrouped (with_command (record state { names = names; dropped = dropped }) line command)
command-grouped state names dropped line None grouped may = record { whole = grouped.whole; grows = grouped.grows }
command-grouped state names dropped line (Some command) grouped may =
    numbered-grouped state state.group names dropped (record { line = line; command = command }) refl grouped may

said-grouped : (catalog : Catalog) (state : ReadState) (line : ℕ) (said : SaidTree) → IsGrouped state → group_fault state.group said ≡ None
    → IsGrouped (with_command (record state { names = names_after state.names line said; dropped = dropped_after state.dropped said }) line (command_said catalog state said))
said-grouped catalog state line said grouped stands =
    command-grouped state (names_after state.names line said) (dropped_after state.dropped said) line (command_said catalog state said) grouped
    (stands-may catalog state state.group said (denied-none (may_stand state.group said) Group stands))

-- ---- workers

-- a worker that begins leaves a group that can become whole
worker-grows : (group' : GroupState) → Grows group' → many_fault group' worker ≡ None → may_stand group' worker ≡ true → Grows (working (workers_of group') [])
worker-grows outside grows many may = absurd cc
worker-grows begun grows many may = (omega arith, tt, (tt, tt))
worker-grows (working workers commands) (few, busy, work) many may = (
  leb-false MAX_WORKERS (length (workers ++ commands ∷ [])) (fault-none (nat_le MAX_WORKERS (length (workers ++ commands ∷ []))) TooMany many),
  all-more HasCommand workers commands busy (ltb-true 0 (length commands) may),
  all-more IsWork (workers ++ commands ∷ []) [] work tt,
)

-- a group that ends is whole
end-whole : (group' : GroupState) → Grows group' → may_stand group' end ≡ true → IsGroup (workers_of group')
end-whole outside grows may = absurd cc
end-whole begun grows may = absurd cc
end-whole (working workers commands) (few, busy, work) may =
    let sum = length-append workers (commands ∷ []) in record {
      some = omega arith;
      few = omega arith;
      busy = all-more HasCommand workers commands busy (ltb-true 0 (length commands) may);
      may = work;
    }

-- a line that may stand where it does leaves the groups whole
pub after-grouped : (catalog : Catalog) (state : ReadState) (line : ℕ) (said : SaidTree) → IsGrouped state → many_fault state.group said ≡ None → group_fault state.group said ≡ None
    → IsGrouped (after catalog state line said)
after-grouped catalog state line (room table (Some slots)) grouped many stands = record { whole = grouped.whole; grows = grouped.grows }
after-grouped catalog state line (room table None) grouped many stands = said-grouped catalog state line (room table None) grouped stands
after-grouped catalog state line (load table file) grouped many stands = said-grouped catalog state line (load table file) grouped stands
after-grouped catalog state line (add table name row) grouped many stands = said-grouped catalog state line (add table name row) grouped stands
after-grouped catalog state line (get name) grouped many stands = said-grouped catalog state line (get name) grouped stands
after-grouped catalog state line (set name column value) grouped many stands = said-grouped catalog state line (set name column value) grouped stands
after-grouped catalog state line (remove name) grouped many stands = said-grouped catalog state line (remove name) grouped stands
after-grouped catalog state line (delete table cond) grouped many stands = said-grouped catalog state line (delete table cond) grouped stands
after-grouped catalog state line (update table column value filter) grouped many stands = said-grouped catalog state line (update table column value filter) grouped stands
after-grouped catalog state line (query tree) grouped many stands = said-grouped catalog state line (query tree) grouped stands
after-grouped catalog state line (compact table) grouped many stands = said-grouped catalog state line (compact table) grouped stands
after-grouped catalog state line (stat table) grouped many stands = said-grouped catalog state line (stat table) grouped stands
after-grouped catalog state line (drop_fold name) grouped many stands = said-grouped catalog state line (drop_fold name) grouped stands
after-grouped catalog state line group grouped many stands = record { whole = grouped.whole; grows = tt }
after-grouped catalog state line worker grouped many stands = record {
  whole = grouped.whole;
  grows = worker-grows state.group grouped.grows many (denied-none (may_stand state.group worker) Group stands);
}
after-grouped catalog state line end grouped many stands = record {
  whole =
      all-more IsWhole state.parts (trees.group (workers_of state.group)) grouped.whole
      (end-whole state.group grouped.grows (denied-none (may_stand state.group end) Group stands));
  grows = tt;
}
