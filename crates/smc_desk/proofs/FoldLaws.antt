-- A dropped fold, which takes no call.
use Rattle.std.proofs.Common.{◌≡◌, ℕ, List, [], Result, IfOk, refl}
use Rattle.std.proofs.lemmas.Result.{IfOk-weaker}
use Rattle.smc_region.specs.Callers.{Caller}
use Rattle.smc_does.specs.Does.{DoesSome}
use Rattle.smc_does.proofs.DoesLaws.{does-nothing}
use Rattle.smc_folds.specs.Kinds.{Kind, without_first}
use Rattle.smc_query.specs.Trees.{Word}
use Rattle.smc_replies.specs.Folds.{DropsFold, dropped_line}
use Rattle.smc_desk.specs.Scenes.{seen}
use Rattle.smc_desk.specs.declared.books.Books.{Books}

-- the folds that are left are those of the books behind it
pub drop-run : {E : Type 0} (name : Word) (books : Books) (kinds left : List Kind) (pass : Caller) (reply : Result (List ℕ) E) → left ≡ without_first kinds name
    → IfOk reply (λ text. text ≡ dropped_line name) → IfOk reply (λ text. DoesSome pass pass (λ calls. DropsFold name (seen books kinds) (seen books left) calls text))
drop-run name books kinds left pass reply dropped is =
    IfOk-weaker reply (λ text. text ≡ dropped_line name) (λ text. DoesSome pass pass (λ calls. DropsFold name (seen books kinds) (seen books left) calls text))
    (λ text said. ([], does-nothing pass, record { folds = dropped; names = refl; keys = refl; none = refl; reply = said })) is
