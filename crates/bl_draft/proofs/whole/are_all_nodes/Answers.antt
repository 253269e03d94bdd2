use Rattle.std.proofs.Common.{sym, ◌∙◌}
use Rattle.bl_selection.specs.declared.draft.Entry.TheVariants as entries
use Rattle.bl_draft.proofs.AllNodes.{differs-by, is_source-other}
use Rattle.bl_draft.proofs.whole.are_all_nodes.Goals as goal

pub returns-then-not-is_node : goal.returns-then-not-is_node
returns-then-not-is_node c =
    let k = c.loop-k.k in
    let entry = c.index-entries-k.result in (
      λ none. absurd (cc),
      λ all. absurd (differs-by (entries.Source 0) c.args.entries.now k c.args.count entry c.loop-k-test.true
          (λ is. is_source-other k entry (sym c.if-not-is_node.ensures) (c.index-entries-k.is ∙ is)) all),
    )
