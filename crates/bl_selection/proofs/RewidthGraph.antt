-- A catalogue at another width is like itself, so in another width, another order or both, what is rebuilt of a file has the
-- same graph; under the file's own catalogue that is the graph of the file.
use Rattle.std.proofs.Common.{◌≡◌, ℕ, zero, suc, ◌<◌, Bool, false, All, List, [], ◌∷◌, Option, Some, None, refl, ap, ◌∙◌}
use Rattle.std.specs.Prelude.{◌==◌, ◌||◌, ◌&&◌, nat_lt, if◌then◌else◌, codes}
use Rattle.std.specs.Str.{bytes_eq}
use Rattle.bl_num.specs.declared.number.Order.{Order}
use Rattle.bl_num.specs.declared.number.Width.{Width}
use Rattle.bl_format.specs.declared.catalogue.Catalogue.{Catalogue}
use Rattle.bl_format.specs.declared.file.Header.{Header}
use Rattle.bl_format.specs.Words.{contains}
use Rattle.bl_format.specs.Schema.{IsCatalogue}
use Rattle.bl_format.specs.Layout.{Basic, IsWhole, IsFloat, IsVoid, basic_named, type_entry, struct_name, inner_struct, first_fault}
use Rattle.bl_format.specs.Nodes.{File, Accepted, has_id_part, is_id_member, pointed_length, view_of, view_of_type}
use Rattle.bl_format.specs.Graph.{graph}
use Rattle.bl_format.specs.Rewidth.{rewidth}
use Rattle.bl_format.proofs.CatalogueRead.{IsCatalogue-can_be_read}
use Rattle.bl_format.proofs.MemberPasses.{first_fault-none}
use Rattle.bl_format.proofs.RewidthKeeps.{rewidth-member_count, rewidth-name_of, rewidth-struct_name, rewidth-type_name, rewidth-inner_struct, rewidth-basic_length}
use Rattle.bl_format.proofs.RewidthLeaves.{rewidth-named_leaves}
use Rattle.bl_selection.specs.Selection.{index_under, rebuilt_graph}
use Rattle.bl_selection.specs.Committed.{IsConverted, target_header, target_catalogue}
use Rattle.bl_selection.proofs.Again.{accepted-same, none_given}
use Rattle.bl_selection.proofs.AlikeGraphs.{AreAlike, rebuilt_graph-alike}
use Rattle.bl_selection.proofs.NothingClashes.{struct_number-rewidth}
use Rattle.bl_selection.proofs.OwnFormGraph.{accepted-CanBeRead, rebuilt_graph-own}

module _ (c : Catalogue) (v w : Width) where
  -- the catalogue at the other width
  abbrev c' : Catalogue
  c' = rewidth c v w

  index_same : (from : Catalogue) (s : ℕ) → index_under c' from s ≡ index_under c from s
  index_same from zero = refl
  index_same from (suc s) = struct_number-rewidth c v w (struct_name from (suc s))

  -- ---- IDs

  -- a member is of struct `ID`
  abbrev is_of_id : Catalogue → Option ℕ → Bool
  is_of_id d None = false
  is_of_id d (Some t) = bytes_eq (struct_name d t) (codes "ID")

  is_of_id-same : (o : Option ℕ) → is_of_id c' o ≡ is_of_id c o
  is_of_id-same None = refl
  is_of_id-same (Some t) = ap (λ (name : List ℕ). bytes_eq name (codes "ID")) (rewidth-struct_name c v w t)

  member_same : (s : ℕ) → is_id_member c' s 0 ≡ is_id_member c s 0
  member_same s =
      let name = rewidth-name_of c v w s 0 in
      let inner : is_of_id c' (inner_struct c' s 0) ≡ is_of_id c (inner_struct c s 0) = ap (is_of_id c') (rewidth-inner_struct c v w s 0) ∙ is_of_id-same (inner_struct c s 0) in
      λ i. bytes_eq (name i).identifier (codes "id") && (name i).count == 1 && inner i

  ids_same : (s : ℕ) → has_id_part c' s ≡ has_id_part c s
  unfolding has_id_part
  ids_same s =
      let name = rewidth-struct_name c v w s in
      let count = rewidth-member_count c v w s in
      let member = member_same s in
      λ i. bytes_eq (name i) (codes "ID") || (nat_lt 0 (count i) && member i)

  module _ (is : IsCatalogue c) (no_fault : first_fault c v ≡ None) where
    -- ---- what pointers say

    length_same : (t : ℕ) (o : Option Basic) → basic_named (type_entry c t).name ≡ o → pointed_length c' t o ≡ pointed_length c t o
    length_same t None basic = refl
    length_same t (Some (IsWhole signed [])) basic = refl
    length_same t (Some (IsWhole signed (n ∷ []))) basic = refl
    length_same t (Some (IsWhole signed (n ∷ m ∷ ns))) basic =
        ap (λ (k : ℕ). if contains (n ∷ m ∷ ns) k then Some k else None) (rewidth-basic_length c v w t (IsWhole signed (n ∷ m ∷ ns)) is no_fault basic)
    length_same t (Some (IsFloat n)) basic = refl
    length_same t (Some IsVoid) basic = refl

    says_same : (depth t : ℕ) → view_of_type c' depth t ≡ view_of_type c depth t
    says_same depth t =
        ap (λ (name : List ℕ). view_of depth (pointed_length c' t (basic_named name))) (rewidth-type_name c v w t)
        ∙ ap (view_of depth) (length_same t (basic_named (type_entry c t).name) refl)

    -- a catalogue at another width is like itself
    pub rewidth-alike : AreAlike c v c' w
    rewidth-alike = record {
      index = index_same;
      leaves = λ t. rewidth-named_leaves c v w t is no_fault;
      ids = ids_same;
      views = says_same;
    }

-- ---- the laws

-- what is rebuilt of a file under a catalogue at another width, in any order, has the same graph
pub rebuilt_graph-rewidth : (f : File) (h h' : Header) (c : Catalogue) → IsCatalogue c → first_fault c h.width ≡ None
    → rebuilt_graph f h' (rewidth c h.width h'.width) ≡ rebuilt_graph f h c
rebuilt_graph-rewidth f h h' c is no_fault = rebuilt_graph-alike f h h' c (rewidth c h.width h'.width) (rewidth-alike c h.width h'.width is no_fault)

-- under the file's own catalogue it is the graph that the file has
pub rebuilt_graph-own_rewidth : (b : List ℕ) (f : File) (h : Header) → All (λ x. x < 256) b → Accepted b f
    → rebuilt_graph f h (rewidth f.catalogue f.header.width h.width) ≡ graph f
rebuilt_graph-own_rewidth b f h bytes accepted =
    rebuilt_graph-rewidth f f.header h f.catalogue (IsCatalogue-can_be_read f.catalogue (accepted-CanBeRead b f bytes accepted))
    (first_fault-none f.catalogue f.header.width accepted.no_layout_fault)
    ∙ rebuilt_graph-own b f bytes accepted

-- so a conversion to any width and order says what its input says
pub converted-graph : (b new : List ℕ) (f g : File) (width : Option Width) (order : Option Order) → All (λ x. x < 256) b → Accepted b f → Accepted new g
    → IsConverted b None width order new → graph g ≡ graph f
converted-graph b new f g width order bytes accepted read is =
    let none : is.like_file ≡ None = none_given is.like_file is.likewise.0 in
    ap graph (accepted-same new g is.stands.file read is.stands.accepted)
    ∙ is.stands.graph_is
    ∙ ap (λ (like : Option File). rebuilt_graph is.file (target_header is.file like width order) (target_catalogue is.file like width)) none
    ∙ rebuilt_graph-own_rewidth b is.file (target_header is.file None width order) bytes is.accepted
    ∙ ap graph (accepted-same b is.file f is.accepted accepted)
