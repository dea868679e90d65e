-- A script that was read is sound.
use Rattle.std.proofs.Common.{◌≡◌, ◌≤◌, arith, ℕ, ◌+◌, List, [], ◌∷◌, inl, inr, map, Option, None, Some, Ok, Err, refl, sym, ap, ◌∙◌, subst}
use Rattle.std.proofs.lemmas.Simd.{map-map}
use Rattle.std.specs.declared.result.Result.{Result}
use Rattle.std.specs.List.{AllByRecursion}
use Rattle.std.specs.Option.{option_or}
use Rattle.std.specs.Prelude.{◌||◌, IfOk}
use Rattle.smc_query.specs.Trees.{Word}
use Rattle.smc_shape.specs.Faults.{fault_of}
use Rattle.smc_shape.specs.Layout.{IsShape, asked, words_of}
use Rattle.smc_shape.specs.declared.coll.CollShape.{CollShape}
use Rattle.smc_shape.proofs.AskedLaws.{fault_of-none, no-fault_of}
use Rattle.smc_shape.specs.declared.shape.TheConstants.{MAX_PASSES}
use Rattle.smc_types.specs.declared.catalog.Catalog.{Catalog}
use Rattle.smc_script.specs.Faults.{LineGives, passed_over, no_text, no_command, command, has_room, is_doing, is_too_large, knows, group_fault, known_fault, many_fault, room_fault, name_fault, said_fault, taken}
use Rattle.smc_script.specs.Says.{SaidTree, room, load, add, get, set, remove, delete, update, query, compact, stat, drop_fold, group, worker, end}
use Rattle.smc_script.specs.Scripts.{Answers, LinesGive, Outcome}
use Rattle.smc_script.specs.Sound.{EachCommand, IsFit, IsPlaced, IsSound, IsWhole, Opens, coll_of_room}
use Rattle.smc_script.specs.States.{ReadState, GroupState, outside, begun, working, after, colls_of, placed, script_of, start, with_numbered, with_room}
use Rattle.smc_script.specs.Names.{Naming}
use Rattle.smc_script.specs.Trees.{NumberedTree, ScriptTree, script_tree}
use Rattle.smc_script.specs.declared.fault.ScriptFault.{ScriptFault}
use Rattle.smc_script.specs.declared.fault.ScriptKind.{ScriptKind}
use Rattle.smc_script.specs.declared.fault.ScriptKind.TheVariants.{Name, Room}
use Rattle.smc_script.specs.declared.script.Script.{Script}
use Rattle.smc_script.specs.declared.state.Asked.{Asked}
use Rattle.smc_script.proofs.GroupLaws.{IsGrouped, after-grouped}
use Rattle.smc_script.proofs.PlacedLaws.{Fits, IsGood, SaidFits, after-good, denied-none, line-fits}
use Rattle.smc_script.proofs.ScriptLaws.{script-ended}
use Rattle.smc_script.proofs.StateLaws.{fault-none, none-last, none-there}

-- the state of an answer, where it has one
abbrev state_in : Result ReadState ScriptKind → ReadState → ReadState
state_in (Ok state) other = state
state_in (Err kind) other = other

-- an answer has one state
state-one : (state next : ReadState) (given : Result ReadState ScriptKind) → given ≡ Ok state → given ≡ Ok next → state ≡ next
state-one state next given one other = ap (λ (r : Result ReadState ScriptKind). state_in r next) (sym one ∙ other)

-- the first of two kinds is none where both are
first-none : (one other : Option ScriptKind) → option_or one other ≡ None → one ≡ None
first-none None other is = refl
first-none (Some kind) other is = absurd cc

-- the second of two kinds is none where both are
second-none : (one other : Option ScriptKind) → option_or one other ≡ None → other ≡ None
second-none None other is = is
second-none (Some kind) other is = absurd cc

-- a line that is not refused is not refused by what is known before it
known-none : (catalog : Catalog) (folds : List Word) (state : ReadState) (said : SaidTree) → said_fault catalog folds state said ≡ None → known_fault catalog folds state said ≡ None
known-none catalog folds state said is =
    second-none (group_fault state.group said) (known_fault catalog folds state said)
    (second-none (many_fault state.group said) (option_or (group_fault state.group said) (known_fault catalog folds state said)) is)

-- a region has no more words with fewer passes
words-fewer : (passes : ℕ) (colls : List CollShape) → passes ≤ MAX_PASSES → words_of (asked passes colls) ≤ words_of (asked MAX_PASSES colls)
unfolding words_of
words-fewer passes colls few = omega arith

-- what every region keeps, with fewer passes
shape-fewer : (passes : ℕ) (colls : List CollShape) → 1 ≤ passes → passes ≤ MAX_PASSES → IsShape (asked MAX_PASSES colls) → IsShape (asked passes colls)
shape-fewer passes colls some few shape = record {
  some_pass = omega arith;
  passes = few;
  some_coll = shape.some_coll;
  colls = shape.colls;
  coll = shape.coll;
  words = (let fewer = words-fewer passes colls few in let most = shape.words in omega arith);
}

-- a region that opens with the most passes opens with fewer
fewer-open : (colls : List CollShape) → fault_of MAX_PASSES colls ≡ None → Opens colls
fewer-open colls none = inr (λ passes some few. fault_of-none passes colls (shape-fewer passes colls some few (no-fault_of MAX_PASSES colls none)))

-- a room that is not refused leaves a region that opens
room-opens : (catalog : Catalog) (state : ReadState) (table slots : ℕ) → room_fault catalog state (room table (Some slots)) ≡ None
    → Opens (colls_of catalog (with_room (record { table = table; slots = slots }) state.rooms))
room-opens catalog state table slots is =
    let rooms : List Asked = with_room (record { table = table; slots = slots }) state.rooms in
    fewer-open (colls_of catalog rooms) (none-there (fault_of MAX_PASSES (colls_of catalog rooms))
    (none-last (is_doing state.phase) (has_room state.rooms table) (is_too_large catalog rooms)
    (fault-none (is_doing state.phase || has_room state.rooms table || is_too_large catalog rooms) Room is)))

-- a command asks for no room, in a group nor outside of one
command-opens : (catalog : Catalog) (state : ReadState) (group' : GroupState) (names : Naming) (dropped : List Word) (numbered : NumberedTree) → Opens (colls_of catalog state.rooms)
    → Opens (colls_of catalog (with_numbered (record state { names = names; dropped = dropped }) group' numbered).rooms)
command-opens catalog state outside names dropped numbered opens = opens
command-opens catalog state begun names dropped numbered opens = opens
command-opens catalog state (working workers commands) names dropped numbered opens = opens

-- a line that is taken leaves a region that opens
after-opens : (catalog : Catalog) (state : ReadState) (line : ℕ) (said : SaidTree) → Opens (colls_of catalog state.rooms)
    → room_fault catalog state said ≡ None → Opens (colls_of catalog (after catalog state line said).rooms)
after-opens catalog state line (room table (Some slots)) opens is = room-opens catalog state table slots is
after-opens catalog state line (room table None) opens is = opens
after-opens catalog state line (load table file) opens is = command-opens catalog state state.group _ _ _ opens
after-opens catalog state line (add table name row) opens is = command-opens catalog state state.group _ _ _ opens
after-opens catalog state line (get name) opens is = command-opens catalog state state.group _ _ _ opens
after-opens catalog state line (set name column (Some value)) opens is = command-opens catalog state state.group _ _ _ opens
after-opens catalog state line (set name column None) opens is = opens
after-opens catalog state line (remove name) opens is = command-opens catalog state state.group _ _ _ opens
after-opens catalog state line (delete table cond) opens is = command-opens catalog state state.group _ _ _ opens
after-opens catalog state line (update table column value filter) opens is = command-opens catalog state state.group _ _ _ opens
after-opens catalog state line (query tree) opens is = command-opens catalog state state.group _ _ _ opens
after-opens catalog state line (compact table) opens is = command-opens catalog state state.group _ _ _ opens
after-opens catalog state line (stat table) opens is = command-opens catalog state state.group _ _ _ opens
after-opens catalog state line (drop_fold name) opens is = command-opens catalog state state.group _ _ _ opens
after-opens catalog state line group opens is = opens
after-opens catalog state line worker opens is = opens
after-opens catalog state line end opens is = opens

-- the same of what a line that says this gives
taken-opens : (catalog : Catalog) (folds : List Word) (state next : ReadState) (line : ℕ) (said : SaidTree) (kind : Option ScriptKind) (given : Result ReadState ScriptKind)
    → Opens (colls_of catalog state.rooms) → said_fault catalog folds state said ≡ kind → given ≡ taken catalog state line said kind → given ≡ Ok next
    → Opens (colls_of catalog next.rooms)
taken-opens catalog folds state next line said None given opens none is same =
    subst (λ (s : ReadState). Opens (colls_of catalog s.rooms)) (state-one (after catalog state line said) next given is same)
    (after-opens catalog state line said opens (first-none (room_fault catalog state said) (name_fault catalog folds state said) (known-none catalog folds state said none)))
taken-opens catalog folds state next line said (Some kind) given opens none is same = absurd cc

-- a line that is taken leaves a region that opens
line-opens : (catalog : Catalog) (folds : List Word) (state next : ReadState) (number : ℕ) (line : List ℕ) (given : Result ReadState ScriptKind)
    → Opens (colls_of catalog state.rooms) → LineGives catalog folds state number line given → given ≡ Ok next → Opens (colls_of catalog next.rooms)
line-opens catalog folds state next number line given opens (passed_over quiet is) same =
    subst (λ (s : ReadState). Opens (colls_of catalog s.rooms)) (state-one state next given is same) opens
line-opens catalog folds state next number line given opens (no_text none is) same = absurd cc
line-opens catalog folds state next number line given opens (no_command counts none is) same = absurd cc
line-opens catalog folds state next number line given opens (command said counts says is) same =
    taken-opens catalog folds state next number said (said_fault catalog folds state said) given opens refl is same

-- the script of an answer, where it has one
abbrev script_in : Outcome → ScriptTree → ScriptTree
script_in (Ok script) other = script
script_in (Err fault) other = other

-- the collections of the rooms with their places are those of the rooms
placed-colls : (catalog : Catalog) (folds : List Word) (state : ReadState) → map (coll_of_room catalog) (script_of folds state).rooms ≡ colls_of catalog state.rooms
placed-colls catalog folds state = map-map (coll_of_room catalog) (placed state.rooms) state.rooms

-- the rooms of a script that lines give are those of a region that opens
lines-open : (catalog : Catalog) (folds : List Word) (lines : List (List ℕ)) (state : ReadState) (number : ℕ) (script : ScriptTree) → Opens (colls_of catalog state.rooms)
    → LinesGive catalog folds state number lines (Ok script) → Opens (map (coll_of_room catalog) script.rooms)
lines-open catalog folds [] state number script opens is =
    subst (λ (tree : ScriptTree). Opens (map (coll_of_room catalog) tree.rooms)) (sym (ap (λ (o : Outcome). script_in o script) (script-ended folds state number script is)))
    (subst Opens (sym (placed-colls catalog folds state)) opens)
lines-open catalog folds (line ∷ lines) state number script opens (Ok next, gives, rest) =
    lines-open catalog folds lines next (number + 1) script (line-opens catalog folds state next (number + 1) line (Ok next) opens gives refl) rest
lines-open catalog folds (line ∷ lines) state number script opens (Err kind, gives, rest) = absurd cc

-- a line that is not refused may stand there, and is no worker too many
group-none : (catalog : Catalog) (folds : List Word) (state : ReadState) (said : SaidTree) → said_fault catalog folds state said ≡ None → group_fault state.group said ≡ None
group-none catalog folds state said is =
    first-none (group_fault state.group said) (known_fault catalog folds state said)
    (second-none (many_fault state.group said) (option_or (group_fault state.group said) (known_fault catalog folds state said)) is)

many-none : (catalog : Catalog) (folds : List Word) (state : ReadState) (said : SaidTree) → said_fault catalog folds state said ≡ None → many_fault state.group said ≡ None
many-none catalog folds state said is = first-none (many_fault state.group said) (option_or (group_fault state.group said) (known_fault catalog folds state said)) is

-- what was read is good, and its groups are whole
abbrev IsRead : Catalog → ReadState → Type 0
IsRead catalog state = IsGood catalog state × IsGrouped state

-- what a line that says this gives is good
taken-good : (catalog : Catalog) (folds : List Word) (state next : ReadState) (line : ℕ) (said : SaidTree) (kind : Option ScriptKind) (given : Result ReadState ScriptKind)
    → IsRead catalog state → SaidFits catalog state.names said → said_fault catalog folds state said ≡ kind → given ≡ taken catalog state line said kind → given ≡ Ok next → IsRead catalog next
taken-good catalog folds state next line said None given (good, grouped) fits none is same =
    subst (IsRead catalog) (state-one (after catalog state line said) next given is same) (
      after-good catalog folds state line said good fits (first-none (room_fault catalog state said) (name_fault catalog folds state said) (known-none catalog folds state said none))
          (denied-none (knows catalog folds state said) Name (second-none (room_fault catalog state said) (name_fault catalog folds state said) (known-none catalog folds state said none))),
      after-grouped catalog state line said grouped (many-none catalog folds state said none) (group-none catalog folds state said none),
    )
taken-good catalog folds state next line said (Some kind) given good fits none is same = absurd cc

-- a line that is taken leaves what was read good
line-good : Fits → (catalog : Catalog) (folds : List Word) (state next : ReadState) (number : ℕ) (line : List ℕ) (given : Result ReadState ScriptKind)
    → IsRead catalog state → LineGives catalog folds state number line given → given ≡ Ok next → IsRead catalog next
line-good laws catalog folds state next number line given good (passed_over quiet is) same = subst (IsRead catalog) (state-one state next given is same) good
line-good laws catalog folds state next number line given good (no_text none is) same = absurd cc
line-good laws catalog folds state next number line given good (no_command counts none is) same = absurd cc
line-good laws catalog folds state next number line given good (command said counts says is) same =
    taken-good catalog folds state next number said (said_fault catalog folds state said) given good (line-fits laws catalog state.names line said says) refl is same

-- the parts of a script are placed among its rooms, and fit its tables; its groups are whole
abbrev AreFit : Catalog → ScriptTree → Type 0
AreFit catalog script = AllByRecursion (IsPlaced script.rooms) script.parts × AllByRecursion (EachCommand (IsFit catalog)) script.parts × AllByRecursion IsWhole script.parts

-- so are those of a script that lines give
lines-good : Fits → (catalog : Catalog) (folds : List Word) (lines : List (List ℕ)) (state : ReadState) (number : ℕ) (script : ScriptTree) → IsRead catalog state
    → LinesGive catalog folds state number lines (Ok script) → AreFit catalog script
lines-good laws catalog folds [] state number script good is =
    subst (AreFit catalog) (sym (ap (λ (o : Outcome). script_in o script) (script-ended folds state number script is))) (good.0.placed, good.0.fits, good.1.whole)
lines-good laws catalog folds (line ∷ lines) state number script good (Ok next, gives, rest) =
    lines-good laws catalog folds lines next (number + 1) script (line-good laws catalog folds state next (number + 1) line (Ok next) good gives refl) rest
lines-good laws catalog folds (line ∷ lines) state number script good (Err kind, gives, rest) = absurd cc

-- nothing was done where nothing was read
start-good : (catalog : Catalog) → IsRead catalog start
start-good catalog = (record { before = λ is. (refl, refl); placed = tt; fits = tt; work_placed = tt; work_fits = tt }, record { whole = tt; grows = tt })

-- a script that was read is sound
pub answer-sound : Fits → (catalog : Catalog) (folds : List Word) (lines : List (List ℕ)) (answer : Result Script ScriptFault)
    → Answers answer (LinesGive catalog folds start 0 lines) → IfOk answer (IsSound catalog)
answer-sound laws catalog folds lines (Ok script) gives =
    let fit = lines-good laws catalog folds lines start 0 (script_tree script) (start-good catalog) gives in record {
      opens = lines-open catalog folds lines start 0 (script_tree script) (inl refl) gives;
      fits = fit.0;
      values = fit.1;
      groups = fit.2;
    }
answer-sound laws catalog folds lines (Err fault) gives = tt
