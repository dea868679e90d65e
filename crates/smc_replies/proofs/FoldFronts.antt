-- A dropped fold, read off from the front of a trace.
use Rattle.std.proofs.Common.{◌≡◌, ℕ, List, ◌++◌, sym, ap, ◌∙◌}
use Rattle.smc_folds.specs.Kinds.{Kind, without_first}
use Rattle.smc_query.specs.Trees.{Word}
use Rattle.smc_trace.specs.Trace.{CallEnd}
use Rattle.smc_replies.specs.Books.{Books, KnowsSame}
use Rattle.smc_replies.specs.Folds.{DropsFold}
use Rattle.smc_replies.proofs.Replied.{IsOneReply}

pub drops-one : (name : Word) (old new before after : Books) (first other rest behind : List CallEnd) (text said : List ℕ) → KnowsSame old before → DropsFold name old new first text
    → DropsFold name before after other said → first ++ rest ≡ other ++ behind → IsOneReply rest behind text said × KnowsSame new after
drops-one name old new before after first other rest behind text said are one two same = (
  (sym (ap (λ (x : List CallEnd). x ++ rest) one.none) ∙ same ∙ ap (λ (x : List CallEnd). x ++ behind) two.none, one.reply ∙ sym two.reply),
  record { names = one.names ∙ are.names ∙ sym two.names; folds = one.folds ∙ ap (λ (kinds : List Kind). without_first kinds name) are.folds ∙ sym two.folds },
)
