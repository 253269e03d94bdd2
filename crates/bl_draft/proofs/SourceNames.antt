-- What is known of the entries of a draft of one file's nodes tells what addresses name from them.
use Rattle.std.proofs.Common.{◌≡◌, ◌<◌, ◌≤◌, inl, inr, ℕ, zero, suc, false, cond, All, List, [], ◌∷◌, length, get_or, Some, None, refl, sym, ap, ◌∙◌, arith}
use Rattle.std.specs.Prelude.{◌==◌, ◌||◌, map, option_and_then}
use Rattle.std.specs.List.{enumerate_from}
use Rattle.std.proofs.Math.Path.{fun_ext}
use Rattle.std.proofs.lemmas.Bool.{cases_lt}
use Rattle.std.proofs.lemmas.List.{get_or-map, get_or_past, get_or_default, length-map}
use Rattle.std.proofs.lemmas.List.Elements.{All-head, All-tail}
use Rattle.std.proofs.lemmas.List.FromFn.{length-enumerate_from}
use Rattle.bl_format.specs.declared.file.Head.{Head}
use Rattle.bl_format.specs.declared.catalogue.Catalogue.{Catalogue}
use Rattle.bl_format.specs.Nodes.{File, Mark, mark, marks, group_of, is_id, target_of}
use Rattle.bl_format.specs.Graph.{Target, file_codes, file_names}
use Rattle.bl_selection.specs.declared.draft.Draft.{Draft}
use Rattle.bl_selection.specs.declared.draft.Entry.{Entry}
use Rattle.bl_selection.specs.declared.draft.Entry.TheVariants as entries
use Rattle.bl_selection.specs.Selection.{no_head, index_under, entry_code, entry_count, entry_index, entry_at, entry_is_id, image_of, image_numbered, entry_group, target_in_scope, entry_names}
use Rattle.bl_selection.proofs.OwnFormNames.{at_place}
use Rattle.bl_file.specs.Outlines.{ids_of}
use Rattle.bl_draft.specs.Kept.{HasIndex}
use Rattle.bl_draft.specs.Numbers.{number_at, numbered_head, numbers_under}
use Rattle.bl_draft.specs.Own.{IsOfSource, entry_node, entry_head, entry_heads, own_names}
use Rattle.bl_draft.specs.Targets.{Known, known_in_scope, known_names}
use Rattle.bl_draft.specs.Entries.{IsNodeBelow, no_mark, source_group, groups_among}
use Rattle.bl_draft.proofs.KeptLemmas.{number-index}
use Rattle.bl_draft.proofs.SourceDrafts.{IsDraftOf}

-- ---- nodes

-- there are as many marks as nodes
pub length-marks : (f : File) → length (marks f) ≡ length f.nodes
unfolding marks
length-marks f = length-map (enumerate_from 0 f.nodes) _ ∙ length-enumerate_from 0 f.nodes

-- the mark of a node stands at its place
pub mark_at : (f : File) (n : ℕ) (z : Mark) → n < length f.nodes → get_or (marks f) n z ≡ mark f n (get_or f.nodes n no_head)
unfolding marks
mark_at f n z lt = at_place (λ (p : ℕ × Head). mark f p.0 p.1) f.nodes n no_head z lt

-- ---- one entry

-- the head of an entry's node stands at the node's place
pub head_at : (nodes : List Head) (x : Entry) (z : Head) → IsNodeBelow (length nodes) x
    → get_or nodes (entry_node x) z ≡ entry_head nodes x
head_at nodes (entries.Source i n) z is = get_or_default nodes n z no_head is.1
head_at nodes (entries.Made m) z is = absurd is.0
head_at nodes (entries.Raw code bytes) z is = absurd is.0

code_at : (f : File) (x : Entry) → IsOfSource x → entry_code (f ∷ []) x ≡ (entry_head f.nodes x).code
code_at f (entries.Source zero n) is = refl
code_at f (entries.Source (suc i) n) is = absurd (omega (arith, is))
code_at f (entries.Made m) is = absurd is
code_at f (entries.Raw code bytes) is = absurd is

-- an entry is an ID under a catalogue, by its node's head and the number that its struct has there
id_at : (f : File) (c : Catalogue) (x : Entry) (index : ℕ) → index ≡ index_under c f.catalogue (entry_head f.nodes x).index
    → IsOfSource x
    → is_id c (entry_head f.nodes x).code (entry_head f.nodes x).count index
    ≡ is_id c (entry_code (f ∷ []) x) (entry_count (f ∷ []) x) (entry_index (f ∷ []) c x)
id_at f c (entries.Source zero n) index own is = ap (is_id c (get_or f.nodes n no_head).code (get_or f.nodes n no_head).count) own
id_at f c (entries.Source (suc i) n) index own is = absurd (omega (arith, is))
id_at f c (entries.Made m) index own is = absurd is
id_at f c (entries.Raw code bytes) index own is = absurd is

codes_at : (f : File) (n : ℕ) (xs : List Entry) → All (IsNodeBelow n) xs
    → map (entry_code (f ∷ [])) xs ≡ map (λ (x : Head). x.code) (entry_heads f.nodes xs)
codes_at f n [] all = refl
codes_at f n (x ∷ xs) all =
    let first = code_at f x (All-head (IsNodeBelow n) x xs all).0 in
    let later = codes_at f n xs (All-tail (IsNodeBelow n) x xs all) in
    λ i. first i ∷ later i

-- ---- what is known

-- what is known is that of a draft's entries, whose nodes have some heads
pub record IsKnownOf (f : File) (d : Draft) (heads : List Head) (k : Known) : Type 0 where
  pub heads_are : heads ≡ entry_heads f.nodes d.entries
  pub index : All (HasIndex f.catalogue) heads
  pub marks : k.marks ≡ marks f
  pub images : k.images ≡ get_or d.images 0 []
  pub sources : k.sources ≡ map (source_group k.marks) d.entries
  pub groups : k.groups ≡ groups_among heads
  pub ids : k.ids ≡ ids_of d.catalogue (map (numbered_head (numbers_under d.catalogue f.catalogue)) heads)

-- as many groups as entries
pub length-groups_among : (heads : List Head) → length (groups_among heads) ≡ length heads
length-groups_among heads = length-map (enumerate_from 0 heads) _ ∙ length-enumerate_from 0 heads

module _ (f : File) (d : Draft) (heads : List Head) (k : Known) (draft : IsDraftOf f.catalogue f.nodes d) (is : IsKnownOf f d heads k) where
  abbrev n : ℕ
  n = length d.entries

  abbrev nothing : Entry
  nothing = entries.Raw [] []

  source_here : (e : ℕ) → e < n → get_or k.sources e 0 ≡ group_of (file_codes f) (entry_node (entry_at d e))
  source_here e lt =
      let at : ℕ = entry_node (entry_at d e) in
      ap (λ gs. get_or gs e 0) is.sources ∙ get_or-map (source_group k.marks) d.entries e nothing 0 lt
      ∙ ap (λ (ms : List Mark). (get_or ms at no_mark).group) is.marks
      ∙ ap (λ (m : Mark). m.group) (mark_at f at no_mark (draft.entries e nothing lt).1)

  many : length heads ≡ n
  many = ap (λ (xs : List Head). length xs) is.heads_are ∙ length-map d.entries (entry_head f.nodes)

  head_here : (e : ℕ) → e < n → get_or heads e no_head ≡ entry_head f.nodes (entry_at d e)
  head_here e lt = ap (λ (xs : List Head). get_or xs e no_head) is.heads_are ∙ get_or-map (entry_head f.nodes) d.entries e nothing no_head lt

  group_here : (e : ℕ) → e < n → get_or k.groups e 0 ≡ entry_group (f ∷ []) d e
  group_here e lt =
      let codes = map (λ (x : Head). x.code) heads in
      ap (λ gs. get_or gs e 0) is.groups
      ∙ at_place (λ (p : ℕ × Head). group_of codes p.0) heads e no_head 0 (omega (arith, lt, many))
      ∙ ap (λ (xs : List Head). group_of (map (λ (x : Head). x.code) xs) e) is.heads_are
      ∙ ap (λ (cs : List (List ℕ)). group_of cs e) (sym (codes_at f (length f.nodes) d.entries draft.entries))

  id_here : (e : ℕ) → e < n → get_or k.ids e false ≡ entry_is_id (f ∷ []) d e
  unfolding entry_is_id
  id_here e lt =
      let numbers : List ℕ = numbers_under d.catalogue f.catalogue in
      let x : Head = entry_head f.nodes (entry_at d e) in
      let below : e < length heads = omega (arith, lt, many) in
      let number : number_at numbers x.index ≡ index_under d.catalogue f.catalogue x.index =
      ap (λ (y : Head). number_at numbers y.index) (sym (head_here e lt))
      ∙ number-index d.catalogue f.catalogue (get_or heads e no_head).index (is.index e no_head below)
      ∙ ap (λ (y : Head). index_under d.catalogue f.catalogue y.index) (head_here e lt) in
      ap (λ bs. get_or bs e false) is.ids
      ∙ get_or-map (λ (y : Head). is_id d.catalogue y.code y.count y.index) (map (numbered_head numbers) heads) e no_head false (omega (arith, below, length-map heads (numbered_head numbers)))
      ∙ ap (λ (y : Head). is_id d.catalogue y.code y.count y.index) (get_or-map (numbered_head numbers) heads e no_head no_head below)
      ∙ ap (λ (y : Head). is_id d.catalogue y.code y.count (number_at numbers y.index)) (head_here e lt)
      ∙ id_at f d.catalogue (entry_at d e) (number_at numbers x.index) number (draft.entries e nothing lt).0

  scope_here : (e to : ℕ) → e < n → to < n → known_in_scope k e to ≡ target_in_scope (f ∷ []) d e to
  scope_here e to lt below =
      let there = group_here to below in
      let here = group_here e lt in
      let id = id_here to below in
      λ i. cond (there i == here i || id i) (Some to) None

  image_few : (m : ℕ) → get_or (get_or d.images 0 []) m 0 ≤ n
  image_few m =
      let row : List ℕ = get_or d.images 0 [] in
      elim (cases_lt m (length row)) [
        | inl lt ↦ draft.images_few m 0 lt
        | inr ge ↦ (let none : get_or row m 0 ≡ 0 = get_or_past row m 0 ge in omega (arith, none))
      ]

  scoped : (e image : ℕ) → e < n → image ≤ n
      → option_and_then (known_in_scope k e) (image_numbered image)
      ≡ option_and_then (target_in_scope (f ∷ []) d e) (image_numbered image)
  scoped e zero lt le = refl
  scoped e (suc to) lt le = scope_here e to lt (omega (arith, le))

  named_here : (e : ℕ) (o : Target) → e < n
      → option_and_then (known_in_scope k e) (option_and_then (λ m. image_numbered (get_or k.images m 0)) o)
      ≡ option_and_then (target_in_scope (f ∷ []) d e) (option_and_then (image_of d 0) o)
  named_here e None lt = refl
  named_here e (Some m) lt =
      ap (λ (row : List ℕ). option_and_then (known_in_scope k e) (image_numbered (get_or row m 0))) is.images
      ∙ scoped e (get_or (get_or d.images 0 []) m 0) lt (image_few m)

  -- by what is known an address names from an entry what it names in the draft
  pub names-known : (e : ℕ) → e < n → known_names k e ≡ own_names f d e
  unfolding entry_names
  names-known e lt =
      fun_ext (λ (address : ℕ).
      ap (λ o. option_and_then (known_in_scope k e) (option_and_then (λ m. image_numbered (get_or k.images m 0)) o))
      (λ i. target_of (is.marks i) (source_here e lt i) address)
      ∙ named_here e (file_names f (group_of (file_codes f) (entry_node (entry_at d e))) address) lt)
