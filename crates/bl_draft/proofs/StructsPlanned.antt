-- The plans of a source's structs, as they are made node by node, and the first float that a node would carry to another number.
use Rattle.std.proofs.Common.{◌≡◌, ◌≢◌, ◌<◌, ◌≤◌, inl, inr, ℕ, ◌+◌, Bool, true, false, cond, All, List, [], ◌∷◌, length, get_or, take, drop, set, Option, Some, None, refl, sym, ap, subst, ◌∙◌, arith, eqb-true}
use Rattle.std.specs.Prelude.{◌==◌, replicate}
use Rattle.std.specs.Option.{option_or}
use Rattle.std.proofs.lemmas.Bool.{cases_lt, eq-eqb, ne_eqb}
use Rattle.std.proofs.lemmas.List.{get_or-set_same, get_or-set_other, get_or-replicate, get_or_past, length-set, length-replicate, take_all, drop_all}
use Rattle.std.proofs.lemmas.List.Elements.{All-nil, All-head, All-tail, All-more}
use Rattle.bl_format.specs.declared.file.Head.{Head}
use Rattle.bl_format.specs.declared.catalogue.Catalogue.{Catalogue}
use Rattle.bl_format.specs.Words.{find_map}
use Rattle.bl_format.specs.Layout.{named_leaves, struct_name}
use Rattle.bl_format.specs.Nodes.{File}
use Rattle.bl_layout.proofs.NestingLemmas.{find_map-drop}
use Rattle.bl_selection.specs.declared.draft.Draft.{Draft}
use Rattle.bl_selection.specs.declared.draft.Entry.{Entry}
use Rattle.bl_selection.specs.declared.draft.Entry.TheVariants as entries
use Rattle.bl_selection.specs.Fate.{first_clash}
use Rattle.bl_selection.specs.Selection.{clash_of, index_under, selection_clash}
use Rattle.bl_selection.proofs.CellViews.{index_under-some}
use Rattle.bl_selection.proofs.NodesBack.{struct_number-named, IsStructNamed}
use Rattle.bl_plan.specs.declared.plans.PlanFault.{PlanFault}
use Rattle.bl_plan.specs.declared.plans.PlanFault.TheVariants.{FloatCast, NoMemory}
use Rattle.bl_plan.specs.declared.steps.Plan.{Plan}
use Rattle.bl_plan.specs.Plans.{Carries, IsFaultOf, no_plan}
use Rattle.bl_file.specs.declared.outline.Outline.{Outline}
use Rattle.bl_draft.specs.Own.{IsOfSource, IsSourceDraft, entry_head, entry_heads, outlined}
use Rattle.bl_draft.specs.Structs.{CarriesNode, HasNoClash, IsClashOf, number_under, source_form, target_form}

-- ---- the namesake of a struct

-- the struct of a number other than 0 is there, and has the same name
pub namesake : (c from : Catalogue) (s : ℕ) → index_under c from s ≢ 0 → IsStructNamed c (struct_name from s) (index_under c from s)
namesake c from s some =
    let named : s ≢ 0 = λ none. some (ap (index_under c from) none) in
    subst (IsStructNamed c (struct_name from s)) (sym (index_under-some c from s named))
    (struct_number-named c (struct_name from s) (λ none. some (index_under-some c from s named ∙ none)))

-- ---- the first clash

-- the first float that the elements of a file's struct would carry to another number under a draft's catalogue
abbrev pub clash_under : File → Draft → ℕ → Option (ℕ × ℕ)
clash_under f d s =
    first_clash (named_leaves f.catalogue f.header.width s)
    (named_leaves d.catalogue d.header.width (index_under d.catalogue f.catalogue s))

-- the same of a node, and none of a raw one
abbrev pub node_clash : File → Draft → Head → Option (ℕ × ℕ)
node_clash f d x = cond (x.index == 0) None (clash_under f d x.index)

module _ (f : File) (d : Draft) where
  entry_clash : (x : Entry) → IsOfSource x → clash_of (f ∷ []) d x ≡ node_clash f d (entry_head f.nodes x)
  entry_clash (entries.Source i n) is = ap (λ (k : ℕ). clash_of (f ∷ []) d (entries.Source k n)) is
  entry_clash (entries.Made m) is = absurd is
  entry_clash (entries.Raw code bytes) is = absurd is

  clash-entries : (xs : List Entry) → All IsOfSource xs
      → find_map (clash_of (f ∷ []) d) xs ≡ find_map (node_clash f d) (entry_heads f.nodes xs)
  clash-entries [] all = refl
  clash-entries (x ∷ xs) all =
      let first = entry_clash x (All-head IsOfSource x xs all) in
      let later = clash-entries xs (All-tail IsOfSource x xs all) in
      λ i. option_or (first i) (later i)

  -- the first clash of a draft of a file's nodes is that of the heads of its entries
  pub selection_clash-nodes : All IsOfSource d.entries
      → selection_clash (f ∷ []) d ≡ find_map (node_clash f d) (entry_heads f.nodes d.entries)
  unfolding selection_clash
  selection_clash-nodes sources = clash-entries d.entries sources

module _ (o : Outline) (d : Draft) where
  -- of an opened file's struct
  abbrev pub struct_clash : ℕ → Option (ℕ × ℕ)
  struct_clash s = clash_under (outlined o []) d s

  -- of an opened file's node
  abbrev pub head_clash : Head → Option (ℕ × ℕ)
  head_clash x = node_clash (outlined o []) d x

  -- a draft's first clash is that of the heads of its entries
  pub selection_clash-heads : (heads : List Head) → IsSourceDraft o d → heads ≡ entry_heads o.nodes d.entries
      → selection_clash (outlined o [] ∷ []) d ≡ find_map head_clash heads
  selection_clash-heads heads source is =
      selection_clash-nodes (outlined o []) d source.sources ∙ ap (find_map head_clash) (sym is)

  -- ---- plans made so far

  -- a struct is planned: its namesake is there, its plan carries elements over, and no float clashes
  pub record IsPlanned (plans : List Plan) (s : ℕ) : Type 0 where
    pub number : number_under o d s < length d.catalogue.structs
    pub carries : Carries (source_form o s) (target_form o d s) (get_or plans s no_plan)
    pub no_clash : struct_clash s ≡ None

  -- of the first i nodes all structs are planned, and what clashes first is behind them
  pub record PlannedSoFar (heads : List Head) (i : ℕ) (planned : List Bool) (plans : List Plan) : Type 0 where
    pub flags_len : length planned ≡ length o.layout.catalogue.structs
    pub plans_len : length plans ≡ length o.layout.catalogue.structs
    pub flagged : (s : ℕ) → get_or planned s false ≡ true → IsPlanned plans s
    pub nodes : All (λ (x : Head). x.index ≢ 0 → get_or planned x.index false ≡ true) (take i heads)
    pub clash : find_map head_clash heads ≡ find_map head_clash (drop i heads)

  none_flagged : (n s : ℕ) → get_or (replicate n false) s false ≡ false
  none_flagged n s = elim (cases_lt s n) [
    | inl lt ↦ get_or-replicate n s false false lt
    | inr ge ↦ get_or_past (replicate n false) s false (omega (arith, ge, length-replicate n false))
  ]

  -- at the start none is
  pub planned_none : (heads : List Head) (n : ℕ) (planned : List Bool) (plans : List Plan)
      → n ≡ length o.layout.catalogue.structs → planned ≡ replicate n false → length plans ≡ n → PlannedSoFar heads 0 planned plans
  planned_none heads n planned plans is flags long = record {
    flags_len = ap length flags ∙ length-replicate n false ∙ is;
    plans_len = long ∙ is;
    flagged = λ s set_there. absurd (let both : true ≡ false = sym set_there ∙ ap (λ bs. get_or bs s false) flags ∙ none_flagged n s in cc);
    nodes = All-nil (λ (x : Head). x.index ≢ 0 → get_or planned x.index false ≡ true);
    clash = refl;
  }

  head_passes : (x : Head) → (x.index ≢ 0 → struct_clash x.index ≡ None) → head_clash x ≡ None
  head_passes x passes = by (x.index == 0) refl
    where
      by : (raw : Bool) → (x.index == 0) ≡ raw → cond raw None (struct_clash x.index) ≡ None
      by true is = refl
      by false is = passes (λ zero. let both : true ≡ false = sym (eq-eqb x.index 0 zero) ∙ is in absurd (cc))

  clash_passes : (heads : List Head) (i : ℕ) (z : Head) → i < length heads → head_clash (get_or heads i z) ≡ None
      → find_map head_clash heads ≡ find_map head_clash (drop i heads)
      → find_map head_clash heads ≡ find_map head_clash (drop (i + 1) heads)
  clash_passes heads i z lt passes so_far =
      so_far ∙ find_map-drop head_clash heads i z lt ∙ ap (λ c. option_or c (find_map head_clash (drop (i + 1) heads))) passes

  module _ (heads : List Head) (i : ℕ) (z : Head) (planned : List Bool) (plans : List Plan) (lt : i < length heads) (so_far : PlannedSoFar heads i planned plans) where
    abbrev here : Head
    here = get_or heads i z

    -- one node more, which is raw or of a struct that is planned
    pub planned_pass : (here.index ≢ 0 → get_or planned here.index false ≡ true) → PlannedSoFar heads (i + 1) planned plans
    planned_pass there = record {
      flags_len = so_far.flags_len;
      plans_len = so_far.plans_len;
      flagged = so_far.flagged;
      nodes = All-more (λ (x : Head). x.index ≢ 0 → get_or planned x.index false ≡ true) heads i z lt so_far.nodes there;
      clash = clash_passes heads i z lt (head_passes here (λ some. (so_far.flagged here.index (there some)).no_clash)) so_far.clash;
    }

    still : (s : ℕ) (plan : Plan) (b : Bool) → (s == here.index) ≡ b → here.index < length o.layout.catalogue.structs
        → get_or (set planned here.index true) s false ≡ true
        → IsPlanned (set plans here.index plan) here.index → IsPlanned (set plans here.index plan) s
    still s plan true is within flag own = subst (IsPlanned (set plans here.index plan)) (sym (eqb-true s here.index is)) own
    still s plan false is within flag own =
        let other : s ≢ here.index = λ same. let both : true ≡ false = sym (eq-eqb s here.index same) ∙ is in absurd (cc) in
        let before = so_far.flagged s (sym (get_or-set_other planned here.index s true false other) ∙ flag) in
        record {
          number = before.number;
          carries = subst (Carries (source_form o s) (target_form o d s)) (sym (get_or-set_other plans here.index s plan no_plan other)) before.carries;
          no_clash = before.no_clash;
        }

    kept_flag : (x : Head) → (x.index ≢ 0 → get_or planned x.index false ≡ true) → here.index < length planned
        → x.index ≢ 0 → get_or (set planned here.index true) x.index false ≡ true
    kept_flag x before within some = by (x.index == here.index) refl
      where
        by : (b : Bool) → (x.index == here.index) ≡ b → get_or (set planned here.index true) x.index false ≡ true
        by true is = ap (λ n. get_or (set planned here.index true) n false) (eqb-true x.index here.index is) ∙ get_or-set_same planned here.index true false within
        by false is =
            get_or-set_other planned here.index x.index true false (λ same. let both : true ≡ false = sym (eq-eqb x.index here.index same) ∙ is in absurd (cc))
            ∙ before some

    -- one node more, whose struct gets a plan
    pub planned_more : (plan : Plan) → here.index < length o.layout.catalogue.structs
        → number_under o d here.index < length d.catalogue.structs
        → Carries (source_form o here.index) (target_form o d here.index) plan → struct_clash here.index ≡ None
        → PlannedSoFar heads (i + 1) (set planned here.index true) (set plans here.index plan)
    planned_more plan within number carries passes =
        let flags : here.index < length planned = omega (arith, within, so_far.flags_len) in
        let fits : here.index < length plans = omega (arith, within, so_far.plans_len) in
        let own : IsPlanned (set plans here.index plan) here.index = record {
          number = number;
          carries = subst (Carries (source_form o here.index) (target_form o d here.index)) (sym (get_or-set_same plans here.index plan no_plan fits)) carries;
          no_clash = passes;
        } in
        record {
          flags_len = length-set planned here.index true ∙ so_far.flags_len;
          plans_len = length-set plans here.index plan ∙ so_far.plans_len;
          flagged = λ s flag. still s plan (s == here.index) refl within flag own;
          nodes = All-more (λ (x : Head). x.index ≢ 0 → get_or (set planned here.index true) x.index false ≡ true) heads i z lt
              (λ k e below. kept_flag (get_or (take i heads) k e) (so_far.nodes k e below) flags)
              (λ some. get_or-set_same planned here.index true false flags);
          clash = clash_passes heads i z lt (head_passes here (λ some. passes)) so_far.clash;
        }

    -- a struct that can't be carried over clashes first
    pub planned_refused : (fault : PlanFault) → IsSourceDraft o d → heads ≡ entry_heads o.nodes d.entries → here.index ≢ 0
        → IsFaultOf (source_form o here.index).leaves (target_form o d here.index).leaves fault → IsClashOf o d fault
    planned_refused NoMemory source are some is = is
    planned_refused (FloatCast t member) source are some is =
        let own : head_clash here ≡ Some (t, member) =
        ap (λ b. cond b None (struct_clash here.index)) (ne_eqb here.index 0 some) ∙ is in
        selection_clash-heads heads source are ∙ so_far.clash ∙ find_map-drop head_clash heads i z lt
        ∙ ap (λ c. option_or c (find_map head_clash (drop (i + 1) heads))) own

  module _ (heads : List Head) (i : ℕ) (planned : List Bool) (plans : List Plan) (all : length heads ≤ i) (so_far : PlannedSoFar heads i planned plans) where
    -- at the end each node's struct has a plan
    pub planned_all : All (CarriesNode o d plans) heads
    planned_all = λ k e lt some.
        let flag = subst (All (λ (x : Head). x.index ≢ 0 → get_or planned x.index false ≡ true)) (take_all i heads all) so_far.nodes k e lt some in
        let own = so_far.flagged (get_or heads k e).index flag in
        (own.number, own.carries)

    -- and nothing clashes
    pub planned_passes : IsSourceDraft o d → heads ≡ entry_heads o.nodes d.entries → HasNoClash o d
    planned_passes source are =
        selection_clash-heads heads source are ∙ so_far.clash ∙ ap (find_map head_clash) (drop_all i heads all)
