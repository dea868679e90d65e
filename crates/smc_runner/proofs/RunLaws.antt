-- Parts that are run one behind another, and what was written of their replies.
use Rattle.std.proofs.Common.{◌≡◌, ◌⊎◌, ℕ, true, false, zero, suc, ◌+◌, ◌<◌, ◌≤◌, List, [], ◌∷◌, ◌++◌, Option, None, length, map, take, drop, get_or, inl, inr, refl, sym, subst, ap, ◌∙◌, append_assoc, take-append-drop, arith}
use Rattle.std.specs.List.{AllByRecursion}
use Rattle.std.specs.Io.KnownBytes.{Appends, Keeps}
use Rattle.std.proofs.KnownBytes.{Appends-kept, Appends-nil, Appends-trans, Keeps-refl}
use Rattle.std.proofs.lemmas.List.{take-map, map_more, take_all}
use Rattle.smc_outside.specs.Pieces.{AppendsFront}
use Rattle.smc_shape.specs.Layout.{Layout}
use Rattle.smc_region.specs.Callers.{Caller}
use Rattle.smc_region.specs.Ends.{Ended}
use Rattle.smc_trace.specs.Trace.{CallEnd}
use Rattle.smc_does.specs.Does.{DoesSome}
use Rattle.smc_does.proofs.DoesLaws.{does-then}
use Rattle.smc_script.specs.declared.script.Part.{Part}
use Rattle.smc_script.specs.declared.script.Room.{Room}
use Rattle.smc_folds.specs.Kinds.{Kind}
use Rattle.smc_query.specs.Trees.{Word}
use Rattle.smc_types.specs.Tables.{the_tables}
use Rattle.smc_script.specs.declared.command.Command.{Command}
use Rattle.smc_script.specs.declared.command.Command.TheVariants as of
use Rattle.smc_script.specs.declared.script.Place.{Place}
use Rattle.smc_script.specs.Tables.{schema_of}
use Rattle.smc_script.specs.Trees.{CommandTree, PartTree, add, command_tree, compact, delete, get, load, one, group, part_tree, query, remove, set, stat, update}
use Rattle.smc_load.specs.declared.fault.LoadFault.{LoadFault}
use Rattle.smc_load.specs.declared.fault.LoadFault.TheVariants as fault
use Rattle.smc_replies.specs.Books.{Books, books_of}
use Rattle.smc_replies.specs.Commands.{RunsCommand, is_load}
use Rattle.smc_replies.specs.Loads.{Scene}
use Rattle.smc_replies.specs.Scripts.{CanRunPart}
use Rattle.smc_replies.proofs.PartLaws.{one-more}
use Rattle.smc_runner.specs.declared.ending.RunEnd.{RunEnd}
use Rattle.smc_runner.specs.declared.ending.RunEnd.TheVariants.{Done, WriteFault, NoFile, BadTable, TableFull, ReadFault, NoMemory}
use Rattle.smc_desk.specs.Stops.{LoadStops}
use Rattle.smc_runner.specs.Runs.{Closes, PartEnds, PartsEnd, Replied, Replies, RepliesAll, RepliesFront, RunsAs, StopsAs, StopsWithin, Writes, end_of, shape_asked}

-- ---- bytes

-- what is taken of two lists behind the first is taken of the second
take-behind : (xs ys : List ℕ) (n : ℕ) → take (length xs + n) (xs ++ ys) ≡ xs ++ take n ys
take-behind [] ys n = ap (λ k. take k ys) (omega arith)
take-behind (x ∷ xs) ys n = let next : length (x ∷ xs) + n ≡ suc (length xs + n) = omega arith in rw next (ap (λ rest. x ∷ rest) (take-behind xs ys n))

take-front : {A : Type 0} (xs ys : List A) → take (length xs) (xs ++ ys) ≡ xs
take-front [] ys = refl
take-front (x ∷ xs) ys = ap (λ rest. x ∷ rest) (take-front xs ys)

-- all that is written is a front, and a front behind what was written
pub front-all : (a b : Option (List ℕ)) (text : List ℕ) → Appends a b text → AppendsFront a b text
front-all a b text all = (length text, subst (λ x. Appends a b x) (sym (take_all (length text) text (omega arith))) all)

pub front-behind : (a b c : Option (List ℕ)) (text said : List ℕ) → Appends a b text → AppendsFront b c said → AppendsFront a c (text ++ said)
front-behind a b c text said all front = (length text + front.0, subst (λ x. Appends a c x) (sym (take-behind text said front.0)) (Appends-trans a b c text (take front.0 said) all front.1))

-- ---- parts

-- the next part of the list, behind those before it
pub next-part : (parts : List Part) (i : ℕ) (d : Part) → i < length parts → take (i + 1) (map part_tree parts) ≡ take i (map part_tree parts) ++ part_tree (get_or parts i d) ∷ []
next-part parts i d within =
    take-map part_tree (i + 1) parts ∙ map_more part_tree parts i d within ∙ ap (λ (x : List PartTree). x ++ part_tree (get_or parts i d) ∷ []) (sym (take-map part_tree i parts))

-- it may be run where all may
pub may-next : (shape : Layout) (folds : List Word) (parts : List Part) (i : ℕ) (d : Part) → i < length parts → AllByRecursion (CanRunPart shape folds) (map part_tree parts) → CanRunPart shape folds (part_tree (get_or parts i d))
may-next shape folds [] i d within all = absurd (omega arith)
may-next shape folds (part ∷ parts) zero d within all = all.0
may-next shape folds (part ∷ parts) (suc i) d within all = may-next shape folds parts i d (omega (arith, within)) all.1

-- ---- one command

-- a command that is no load reads no file
pub no-load : (c : Command) → ((place : Place) (file : Word) → c ≡ of.Load place file → ⊥) → is_load (command_tree c) ≡ false
no-load (of.Load place file) not = absurd (not place file refl)
no-load (of.Add place name row) not = refl
no-load (of.Get place name) not = refl
no-load (of.Set place name column value) not = refl
no-load (of.Remove place name) not = refl
no-load (of.Delete place filter) not = refl
no-load (of.Update place column value filter) not = refl
no-load (of.Query place tree) not = refl
no-load (of.Compact place) not = refl
no-load (of.Stat place) not = refl
no-load (of.DropFold name) not = refl

-- a command was run, and its reply written, or a front of it
pub one-ends : (scene : Scene) (status : RunEnd) (line : ℕ) (c : CommandTree) (known now : Books) (old new : Caller) (a b : Option (List ℕ)) (text : List ℕ)
    → DoesSome old new (λ calls. RunsCommand scene c known now calls text) → Writes status a b text → PartEnds scene status (one (record { line = line; command = c })) known now old new a b
one-ends scene Done line c known now old new a b text done writes = (done.0, done.1, (text, done.2, writes))
one-ends scene WriteFault line c known now old new a b text done writes = (done.0, done.1, (text, done.2, writes))
one-ends scene _ line c known now old new a b text done writes = absurd writes

-- where it was, no file failed
pub no-read : (status : RunEnd) (a b : Option (List ℕ)) (text : List ℕ) → Writes status a b text → status ≡ ReadFault → ⊥
no-read status a b text writes is = subst (λ (e : RunEnd). Writes e a b text) is writes

-- a load was not
stops-at : (scene : Scene) (line : ℕ) (place : Place) (file : Word) (why : LoadFault) (known now : Books) (old new : Caller) (out : Option (List ℕ))
    → LoadStops why (schema_of the_tables place.table) scene.files place file known old new → PartEnds scene (end_of file why) (one (record { line = line; command = load place file })) known now old new out out
stops-at scene line place file fault.NoFile known now old new out stops = ((stops.0, stops.1, (file, fault.NoFile, refl, (refl, stops.2))), Keeps-refl out)
stops-at scene line place file (fault.Tbl at why) known now old new out stops = ((stops.0, stops.1, (file, fault.Tbl at why, refl, (refl, stops.2))), Keeps-refl out)
stops-at scene line place file (fault.Full at) known now old new out stops = ((stops.0, stops.1, (file, fault.Full at, refl, (refl, stops.2))), Keeps-refl out)
stops-at scene line place file fault.ReadFault known now old new out stops = ((stops.0, stops.1, (file, fault.ReadFault, refl, (refl, stops.2))), Keeps-refl out)
stops-at scene line place file fault.NoMemory known now old new out stops = Keeps-refl out

pub one-stops : (scene : Scene) (status : RunEnd) (line : ℕ) (place : Place) (file : Word) (why : LoadFault) (known now : Books) (old new : Caller) (out : Option (List ℕ))
    → (status ≡ NoMemory) ⊎ (status ≡ end_of file why) → LoadStops why (schema_of the_tables place.table) scene.files place file known old new
    → PartEnds scene status (one (record { line = line; command = load place file })) known now old new out out
one-stops scene status line place file why known now old new out (inl is) stops =
    subst (λ (e : RunEnd). PartEnds scene e (one (record { line = line; command = load place file })) known now old new out out) (sym is) (Keeps-refl out)
one-stops scene status line place file why known now old new out (inr is) stops =
    subst (λ (e : RunEnd). PartEnds scene e (one (record { line = line; command = load place file })) known now old new out out) (sym is)
    (stops-at scene line place file why known now old new out stops)

-- ---- what was run

module _ (scene : Scene) (known : Books) where
  pub ran-more : (parts : List PartTree) (part : PartTree) (now next : Books) (first middle last : Caller) (a b c : Option (List ℕ)) → DoesSome first middle (λ calls. Replies scene Appends parts known now calls a b)
      → DoesSome middle last (λ calls. Replied scene Appends part now next calls b c) → DoesSome first last (λ calls. Replies scene Appends (parts ++ part ∷ []) known next calls a c)
  ran-more parts part now next first middle last a b c before more = (
    before.0 ++ more.0,
    does-then before.1 more.1,
    (before.2.0 ++ more.2.0, one-more scene parts part known now next before.0 more.0 before.2.0 more.2.0 before.2.1 more.2.1, Appends-trans a b c before.2.0 more.2.0 before.2.2 more.2.2),
  )

  -- the last reply of which was written in part
  pub ran-front : (parts : List PartTree) (part : PartTree) (now next : Books) (first middle last : Caller) (a b c : Option (List ℕ)) → DoesSome first middle (λ calls. Replies scene Appends parts known now calls a b)
      → DoesSome middle last (λ calls. Replied scene AppendsFront part now next calls b c) → DoesSome first last (λ calls. Replies scene AppendsFront (parts ++ part ∷ []) known next calls a c)
  ran-front parts part now next first middle last a b c before more = (
    before.0 ++ more.0,
    does-then before.1 more.1,
    (before.2.0 ++ more.2.0, one-more scene parts part known now next before.0 more.0 before.2.0 more.2.0 before.2.1 more.2.1, front-behind a b c before.2.0 more.2.0 before.2.2 more.2.2),
  )

  -- the last of which had no reply
  pub ran-kept : (parts : List PartTree) (now : Books) (first middle : Caller) (a b c : Option (List ℕ)) → DoesSome first middle (λ calls. Replies scene Appends parts known now calls a b) → Keeps b c
      → (calls : List CallEnd) × Replies scene AppendsFront parts known now calls a c
  ran-kept parts now first middle a b c before kept = (before.0, (before.2.0, before.2.1, front-all a c before.2.0 (Appends-kept a b c before.2.0 before.2.2 kept)))

  -- the part behind them stopped
  ran-stopped : (status : RunEnd) (all : List PartTree) (count : ℕ) (part : PartTree) (now : Books) (first middle last : Caller) (a b c : Option (List ℕ)) → take (count + 1) all ≡ take count all ++ part ∷ []
      → DoesSome first middle (λ calls. Replies scene Appends (take count all) known now calls a b) → DoesSome middle last (StopsAs scene status part now) × Keeps b c
      → DoesSome first last (λ calls. StopsWithin scene status all known calls a c)
  ran-stopped status all count part now first middle last a b c more before ends = (
    before.0 ++ ends.0.0,
    does-then before.1 ends.0.1,
    record {
      run = take count all;
      part = part;
      behind = drop (count + 1) all;
      now = now;
      first = before.0;
      rest = ends.0.0;
      are = sym (take-append-drop (count + 1) all) ∙ ap (λ (x : List PartTree). x ++ drop (count + 1) all) more ∙ append_assoc (take count all) (part ∷ []) (drop (count + 1) all);
      replied = (before.2.0, before.2.1, Appends-kept a b c before.2.0 before.2.2 ends.1);
      stops = ends.0.2;
      made = refl;
    },
  )

  -- a front of what all parts print is a front of what the first of them do
  pub front-of-all : (parts : List PartTree) (calls : List CallEnd) (a b : Option (List ℕ)) → RepliesAll scene parts known calls a b → RepliesFront scene parts known calls a b
  front-of-all parts calls a b all =
      (length parts, all.0, subst (λ x. Replies scene AppendsFront x known all.0 calls a b) (sym (take_all (length parts) parts (omega arith))) (all.1.0, all.1.1, front-all a b all.1.0 all.1.2))

  -- so too where one stopped behind them
  pub front-of-stopped : (status : RunEnd) (parts : List PartTree) (calls : List CallEnd) (a b : Option (List ℕ)) → StopsWithin scene status parts known calls a b
      → (ran : List CallEnd) × RepliesFront scene parts known ran a b
  front-of-stopped status parts calls a b stops =
      let said = stops.replied in
      let front : take (length stops.run) parts ≡ stops.run = ap (λ (x : List PartTree). take (length stops.run) x) stops.are ∙ take-front stops.run (stops.part ∷ stops.behind) in
      (stops.first, (length stops.run, stops.now, subst (λ x. Replies scene AppendsFront x known stops.now stops.first a b) (sym front) (said.0, said.1, front-all a b said.0 said.2)))

  -- all of them were
  pub all-ran : (parts : List PartTree) (count : ℕ) (now : Books) (first last : Caller) (a b : Option (List ℕ)) → length parts ≤ count
      → DoesSome first last (λ calls. Replies scene Appends (take count parts) known now calls a b) → PartsEnd scene Done parts known first last a b
  all-ran parts count now first last a b many ran =
      (ran.0, ran.1, (now, subst (λ (ps : List PartTree). Replies scene Appends ps known now ran.0 a b) (take_all count parts many) ran.2))

  -- the parts end with one that did not go on
  pub ends-within : (status : RunEnd) (all : List PartTree) (count : ℕ) (part : PartTree) (now next : Books) (first middle last : Caller) (a b c : Option (List ℕ))
      → take (count + 1) all ≡ take count all ++ part ∷ []
      → (status ≡ Done → ⊥) → DoesSome first middle (λ calls. Replies scene Appends (take count all) known now calls a b) → PartEnds scene status part now next middle last b c → PartsEnd scene status all known first last a c
  ends-within Done all count part now next first middle last a b c more not_done before ends = absurd (not_done refl)
  ends-within WriteFault all count part now next first middle last a b c more not_done before ends =
      let ran = ran-front (take count all) part now next first middle last a b c before ends in
      (ran.0, ran.1, (count + 1, next, subst (λ (ps : List PartTree). Replies scene AppendsFront ps known next ran.0 a c) (sym more) ran.2))
  ends-within NoMemory all count part now next first middle last a b c more not_done before ends =
      let ran = ran-kept (take count all) now first middle a b c before ends in
      (ran.0, (count, now, ran.1))
  ends-within (NoFile name) all count part now next first middle last a b c more not_done before ends = ran-stopped (NoFile name) all count part now first middle last a b c more before ends
  ends-within (BadTable name line) all count part now next first middle last a b c more not_done before ends = ran-stopped (BadTable name line) all count part now first middle last a b c more before ends
  ends-within (TableFull name line) all count part now next first middle last a b c more not_done before ends = ran-stopped (TableFull name line) all count part now first middle last a b c more before ends
  ends-within ReadFault all count part now next first middle last a b c more not_done before ends = ran-stopped ReadFault all count part now first middle last a b c more before ends

-- ---- the whole run

-- it was not, for want of memory
unclosed : (Closed : Option Ended → List CallEnd → Type 0) (scene : Scene) (kinds : List Kind) (parts : List PartTree) (a b : Option (List ℕ)) → (ran : List CallEnd) × RepliesFront scene parts (books_of kinds) ran a b
    → RunsAs Closed scene kinds NoMemory parts None a b
unclosed Closed scene kinds parts a b front = (front.0, front.1, refl)

pub ends-unclosed : (Closed : Option Ended → List CallEnd → Type 0) (scene : Scene) (kinds : List Kind) (status : RunEnd) (parts : List PartTree) (old new : Caller) (a b : Option (List ℕ))
    → PartsEnd scene status parts (books_of kinds) old new a b → RunsAs Closed scene kinds NoMemory parts None a b
ends-unclosed Closed scene kinds Done parts old new a b ends = (ends.0, front-of-all scene (books_of kinds) parts ends.0 a b ends.2, refl)
ends-unclosed Closed scene kinds WriteFault parts old new a b ends = (ends.0, ends.2, refl)
ends-unclosed Closed scene kinds NoMemory parts old new a b ends = (ends.0, ends.1, refl)
ends-unclosed Closed scene kinds (NoFile name) parts old new a b ends = unclosed Closed scene kinds parts a b (front-of-stopped scene (books_of kinds) (NoFile name) parts ends.0 a b ends.2)
ends-unclosed Closed scene kinds (BadTable name line) parts old new a b ends = unclosed Closed scene kinds parts a b (front-of-stopped scene (books_of kinds) (BadTable name line) parts ends.0 a b ends.2)
ends-unclosed Closed scene kinds (TableFull name line) parts old new a b ends = unclosed Closed scene kinds parts a b (front-of-stopped scene (books_of kinds) (TableFull name line) parts ends.0 a b ends.2)
ends-unclosed Closed scene kinds ReadFault parts old new a b ends = unclosed Closed scene kinds parts a b (front-of-stopped scene (books_of kinds) ReadFault parts ends.0 a b ends.2)
