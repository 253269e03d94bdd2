use Rattle.std.proofs.Common.{◌≡◌, Option, List, length, map, ap, ◌∙◌, arith}
use Rattle.std.specs.Prelude.{unwrap_or}
use Rattle.std.proofs.lemmas.List.{take_at}
use Rattle.bl_format.specs.declared.raw.RawKind.{RawKind}
use Rattle.bl_format.specs.declared.raw.RawKind.TheVariants.{Bytes}
use Rattle.bl_ptrarrays.specs.Joined.{joined_views}
use Rattle.bl_ptrarrays.proofs.ViewsJoined.{joined_views-viewed, length-joined_views}
use Rattle.bl_ptrarrays.proofs.kinds.views.Goals as goal

pub returns : goal.returns
returns c =
    let seen = c.args.seen.now in
    let old = c.as_mut_slice.result.now in
    let new = c.join_views.new.kinds in
    let long : length new ≡ c.in_ok-kinds.kinds.len =
    ap (λ (ks : List (Option RawKind)). length ks) c.join_views.ensures ∙ length-joined_views seen old
    ∙ omega (arith, ap (λ (ks : List (Option RawKind)). length ks) c.as_mut_slice.ensures.value, c.in_ok-kinds.kinds.ok) in
    c.in_ok-kinds_or_bytes.ensures
    ∙ ap (map (λ (o : Option RawKind). unwrap_or o Bytes))
    (c.deref.ensures.value ∙ take_at new _ c.in_ok-kinds.kinds.len long ∙ c.join_views.ensures
    ∙ ap (joined_views seen) (c.as_mut_slice.ensures.value ∙ c.in_ok-kinds.ensures))
    ∙ joined_views-viewed seen c.args.nodes c.requires
