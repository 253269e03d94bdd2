use Rattle.std.proofs.Common.{◌++◌, sym, ap, ◌∙◌, arith, rules}
use Rattle.std.proofs.lemmas.Bool.{eqb-true}
use Rattle.std.proofs.lemmas.Result.{on_ok_weaker}
use Rattle.bl_file.proofs.ReadLemmas.{held_so}
use Rattle.bl_file.proofs.RawGroupLemmas.{silent_node}
use Rattle.bl_file.proofs.SightLemmas.{length_short}
use Rattle.bl_file.proofs.SpeakerLemmas.{node_struct, node_heard, node_says, node_says_nothing}
use Rattle.bl_file.proofs.node_views.node_said.Goals as goal

pub bounds-sight-head : goal.bounds-sight-head
bounds-sight-head g c = node_struct c.args.sight.now _ c.args.number _ c.requires.sight c.requires.number c.if-head-eq0.false

pub split_at_mut-bytes-requires : goal.split_at_mut-bytes-requires
split_at_mut-bytes-requires g c =
    let of = c.args.sight.now.layout.now in
    let short = length_short of.catalogue of.width _ c.length.result c.length.ensures c.requires.sight.has_layout in
    omega (arith, short, c.requires.buffer)

pub returns-then-is_silent-clause-said : goal.returns-then-is_silent-clause-said
returns-then-is_silent-clause-said g c =
    held_so (g.S.Shelf.told c.args.shelf.now) (g.P.Payload.file_name c.args.payload.now) _ _ c.requires.held
    (λ b agrees. silent_node (g.T.Targets.names c.args.targets.now) c.args.sight.now b c.args.number c.args.seen.now.items
    (c.is_silent.ensures c.if-is_silent.true))

pub elements_said-requires-clause-node : goal.elements_said-requires-clause-node
elements_said-requires-clause-node g c = record {
  width = c.requires.sight.width;
  node = search rules;
  index = c.if-head-eq0.false;
  heard = node_heard c.args.sight.now _ c.args.number _ c.requires.sight c.requires.number c.if-head-eq0.false
      c.as_slice-speakers.result.now _ (c.as_slice-speakers.ensures);
}

pub returns-then-is_empty-clause-said : goal.returns-then-is_empty-clause-said
returns-then-is_empty-clause-said g c =
    held_so (g.S.Shelf.told c.args.shelf.now) (g.P.Payload.file_name c.args.payload.now) _ _ c.requires.held
    (λ b agrees. node_says_nothing c.args.sight.now _ c.args.number _ c.requires.sight c.requires.number c.if-head-eq0.false
    (g.T.Targets.names c.args.targets.now) b c.as_slice-speakers.result.now _ c.args.seen.now.items
    (c.as_slice-speakers.ensures) (eqb-true _ 0 (sym c.is_empty.ensures ∙ c.if-is_empty.true)))

pub returns-clause-said : goal.returns-clause-said
returns-clause-said g c =
    on_ok_weaker c.elements_said.result
    (λ held. held_so (g.S.Shelf.told c.args.shelf.now) (g.P.Payload.file_name c.args.payload.now) _ _ held
    (λ b is. is ∙ ap (λ vs. c.args.seen.now.items ++ vs)
    (node_says c.args.sight.now _ c.args.number _ c.requires.sight c.requires.number c.if-head-eq0.false
    (g.T.Targets.names c.args.targets.now) b c.as_slice-speakers.result.now _ (c.as_slice-speakers.ensures))))
    c.elements_said.ensures.said
