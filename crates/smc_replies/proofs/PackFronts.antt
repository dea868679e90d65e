-- The calls that pack a table are read off from the front of a trace.
use Rattle.std.proofs.Common.{◌≡◌, ℕ, List, ◌++◌, sym, ap, ◌∙◌}
use Rattle.smc_trace.specs.Trace.{CallEnd}
use Rattle.smc_compact.specs.declared.packing.Packed.{Packed}
use Rattle.smc_compact.proofs.OneLaws.{packs-front}
use Rattle.smc_script.specs.declared.script.Place.{Place}
use Rattle.smc_replies.specs.Commands.{PacksTable, packed_reply, table_name}
use Rattle.smc_replies.proofs.Replied.{IsOneReply}
use Rattle.smc_replies.specs.declared.limits.TheConstants.{COMPACT_TURNS}

pub packs-one : (place : Place) (first other rest behind : List CallEnd) (text said : List ℕ) → PacksTable place first text → PacksTable place other said → first ++ rest ≡ other ++ behind
    → IsOneReply rest behind text said
packs-one place first other rest behind text said one two same =
    let read = packs-front place.coll COMPACT_TURNS one.packed two.packed first other rest behind one.packs two.packs same in
    (read.1, one.reply ∙ ap (λ (p : Packed). packed_reply (table_name place.table) p) read.0 ∙ sym two.reply)
