-- Which draft a conversion of an opened input writes, and how one that has none ends.
use Rattle.std.proofs.Common.{◌≡◌, ◌⊎◌, ◌≤◌, ◌<◌, inl, inr, List, [], ◌∷◌, ◌++◌, length, ℕ, Bool, true, false, cond, All, Option, Some, None, Result, Ok, Err, refl, sym, ap, subst, ◌∙◌, arith, option_map}
use Rattle.std.specs.Prelude.{◌^◌, unwrap_or, IfOk, IfSome, IsSomeAnd, OnOk}
use Rattle.bl_num.specs.declared.number.Order.{Order}
use Rattle.bl_num.specs.declared.number.Width.{Width}
use Rattle.bl_format.specs.declared.catalogue.Catalogue.{Catalogue}
use Rattle.bl_format.specs.declared.layout.LayoutFault.{LayoutFault}
use Rattle.bl_format.specs.declared.layout.LayoutFault.TheVariants as layout
use Rattle.bl_format.specs.Layout.{HasLayout}
use Rattle.bl_format.specs.Rewidth.{rewidth, rewidth_fault}
use Rattle.bl_format.specs.Schema.{catalogue_written}
use Rattle.bl_format.specs.Limits.{most_blocks, most_input_bytes}
use Rattle.bl_format.specs.Nodes.{File}
use Rattle.bl_format.proofs.RewidthHasLayout.{rewidth-HasLayout}
use Rattle.bl_selection.specs.declared.draft.Draft.{Draft}
use Rattle.bl_selection.specs.Selection.{whole_selection}
use Rattle.bl_selection.proofs.OwnFormGraph.{accepted-CanBeRead}
use Rattle.bl_commands.specs.declared.ending.Ending.{Ending}
use Rattle.bl_commands.specs.declared.ending.Ending.TheVariants as endings
use Rattle.bl_commands.specs.declared.ending.Quantity.TheVariants.{TypeBytes}
use Rattle.bl_commands.specs.Checks.{first_ending}
use Rattle.bl_answers.specs.Writing.{writing_refusal}
use Rattle.bl_shelf.specs.Calls.{Keeps}
use Rattle.bl_shelf.specs.Told.{Told, bytes_under}
use Rattle.bl_shelf.specs.declared.shelf.Shelf.{Ghosts as ShelfGhosts}
use Rattle.bl_file.specs.declared.outline.Outline.{Outline}
use Rattle.bl_file.specs.declared.payload.Payload.{Ghosts}
use Rattle.bl_file.specs.Held.{IsHeldAnd}
use Rattle.bl_file.specs.Opening.{file_in, open_fault}
use Rattle.bl_file.specs.Outlines.{IsSound, StandsFor}
use Rattle.bl_file.proofs.HeldLemmas.{IsHeldAnd-weaker}
use Rattle.bl_draft.specs.Own.{outlined}
use Rattle.bl_run.specs.Blame.{BlamesRisen, IsEndingOf}
use Rattle.bl_run.specs.Commands.Convert.{convert_checks, convert_draft, convert_effect, convert_meaning, convert_outcome, file_under, form_checks, is_plain, like_under, opening_checks, width_ending, width_fault}
use Rattle.bl_run.specs.Conversions.{IsConversionDraft, IsFormDraft, IsModel, IsNoConversion, IsUnformed, wanted_catalogue, wanted_fault, wanted_width}
use Rattle.bl_run.specs.Input.{IsChecked, bytes_held, input_checks, open_ending, opening_check}
use Rattle.bl_run.specs.Meaning.{Meaning, unless_ending}
use Rattle.bl_run.specs.Opened.{IsInput, IsUnopened}
use Rattle.bl_run.specs.Rendering.{draft_effect, IsDraftWritten, WritesDraft}
use Rattle.bl_run.specs.Staging.{IsUnready}
use Rattle.bl_run.proofs.CatalogueLengths.{length-any_order, length-rewidth}
use Rattle.bl_run.proofs.CommandLaws.Convert.{own_passes}
use Rattle.bl_run.proofs.Drafted.{checked_unready, held_is, memory_unready}
use Rattle.bl_run.proofs.Inputs.{checked_by, checked_ends, first_of_one, misses_wider, split_none, split_some, two_pass}
use Rattle.bl_run.proofs.SameWidths.{rewidth_fault-same}

-- ---- an input, as it is opened

-- it stays so over a shelf that tells the same
pub input_later : {S P : Type 0} (g : ShelfGhosts S) (h : Ghosts P) (name : List ℕ) (s s' : S) (o : Outline) (p : P) → Keeps g s s' → IsInput g h name s o p → IsInput g h name s' o p
input_later g h name s s' o p keeps is = record {
  sound = is.sound;
  named = is.named;
  size = is.size;
  held = subst (λ (told : Option Told). IsHeldAnd told (h.file_name p) (h.agrees p)) (sym keeps.told) is.held;
  stands = subst (λ (told : Option Told). IsHeldAnd told (h.file_name p) (λ b. StandsFor b o)) (sym keeps.told) is.stands;
  passes = subst (λ (told : Option Told). IfSome told (λ t. first_ending (input_checks t.held name) ≡ None)) (sym keeps.told) is.passes;
}

one_passes : (told : Option Told) (name : List ℕ) → IfSome told (λ t. open_fault 0 (bytes_under name t) ≡ None) → IfSome told (λ t. first_ending (input_checks t.held name) ≡ None)
one_passes None name passes = tt
one_passes (Some t) name passes = rw passes refl

-- what `open` says of the first input
pub input_opened : {S P : Type 0} (g : ShelfGhosts S) (h : Ghosts P) (name : List ℕ) (s s' : S) (o : Outline) (p : P) → Keeps g s s' → IsSound o → h.file_name p ≡ name → h.file_size p ≡ o.size
    → IsHeldAnd (g.told s) name (λ b. h.agrees p b × StandsFor b o) → IfSome (g.told s) (λ t. open_fault 0 (bytes_under name t) ≡ None) → IsInput g h name s' o p
input_opened g h name s s' o p keeps sound named size stands passes =
    input_later g h name s s' o p keeps (record {
      sound = sound;
      named = named;
      size = size;
      held = subst (λ (file : List ℕ). IsHeldAnd (g.told s) file (h.agrees p)) (sym named) (IsHeldAnd-weaker (g.told s) name (λ b. h.agrees p b × StandsFor b o) (h.agrees p) stands (λ b is. is.0));
      stands = subst (λ (file : List ℕ). IsHeldAnd (g.told s) file (λ b. StandsFor b o)) (sym named)
          (IsHeldAnd-weaker (g.told s) name (λ b. h.agrees p b × StandsFor b o) (λ b. StandsFor b o) stands (λ b is. is.1));
      passes = one_passes (g.told s) name passes;
    })

stands_named : {S P : Type 0} (g : ShelfGhosts S) (h : Ghosts P) (name : List ℕ) (s : S) (o : Outline) (p : P) → IsInput g h name s o p → IsHeldAnd (g.told s) name (λ b. StandsFor b o)
stands_named g h name s o p is = subst (λ (file : List ℕ). IsHeldAnd (g.told s) file (λ b. StandsFor b o)) is.named is.stands

-- ---- the draft

-- a command that writes a draft writes it over a shelf that tells the same
pub writes_later : {S : Type 0} (g : ShelfGhosts S) (m : Meaning) (input name : List ℕ) (s s' : S) (d : Draft) → Keeps g s s' → WritesDraft g m input name s d → WritesDraft g m input name s' d
writes_later g m input name s s' d keeps writes = record {
  missed = writes.missed;
  told = subst (λ (told : Option Told). IfSome told (λ t. IsDraftWritten m t.held (file_in (bytes_held t.held input)) d name)) (sym keeps.told) writes.told;
}

-- the model's catalogue is laid out at the width that is wanted, where no struct is too long there
pub wanted_layout : (o q : Outline) (width : Option Width) → IsSound q → wanted_fault o q width ≡ None → HasLayout (wanted_catalogue o q width) (wanted_width o width)
wanted_layout o q width sound fits =
    rewidth-HasLayout q.layout.catalogue q.header.width (wanted_width o width) (subst (HasLayout q.layout.catalogue) sound.width sound.has_layout) fits

-- and short enough in any order
pub wanted_short : (o q : Outline) (width : Option Width) (order : Order) → IsSound q → length (catalogue_written order (wanted_catalogue o q width)) < 2 ^ 31
wanted_short o q width order sound =
    let long : length (catalogue_written order (wanted_catalogue o q width)) ≡ length (catalogue_written q.header.order q.layout.catalogue) =
    length-rewidth order q.layout.catalogue q.header.width (wanted_width o width) ∙ length-any_order order q.header.order q.layout.catalogue in
    subst (λ (n : ℕ). n < 2 ^ 31) (sym long) sound.short

-- what is made with that catalogue, at a width and in an order that are those wanted
module _ (o q : Outline) (width : Option Width) (order : Option Order) (w : Width) (copy : Catalogue)
    (width_is : w ≡ wanted_width o width) (copy_is : copy ≡ rewidth q.layout.catalogue q.header.width w) where
  wanted_is : copy ≡ wanted_catalogue o q width
  wanted_is = copy_is ∙ ap (rewidth q.layout.catalogue q.header.width) width_is

  pub formed_layout : IsSound q → rewidth_fault q.layout.catalogue q.header.width w ≡ None → HasLayout copy w
  formed_layout sound fits =
      subst (λ (c : Catalogue). HasLayout c w) (sym wanted_is)
      (subst (HasLayout (wanted_catalogue o q width)) (sym width_is)
      (wanted_layout o q width sound (ap (rewidth_fault q.layout.catalogue q.header.width) (sym width_is) ∙ fits)))

  pub formed_short : (order' : Order) → IsSound q → length (catalogue_written order' copy) < 2 ^ 31
  formed_short order' sound = subst (λ (c : Catalogue). length (catalogue_written order' c) < 2 ^ 31) (sym wanted_is) (wanted_short o q width order' sound)

  pub formed_draft : (order' : Order) (d : Draft) → order' ≡ unwrap_or order o.header.order
      → ((b : List ℕ) → d ≡ whole_selection (outlined o b) (record { width = w; order = order'; version = q.header.version }) copy)
      → IsFormDraft o q width order d
  formed_draft order' d order_is is = λ b.
      is b ∙ (λ i. whole_selection (outlined o b) (record { width = width_is i; order = order_is i; version = q.header.version }) (wanted_is i))

-- ---- what files say of it, where the shelf tells

-- what is known of the input and of the model
record AreKnown (t : Told) (input : List ℕ) (like : Option (List ℕ)) (o q : Outline) : Type 0 where
  source : StandsFor (bytes_held t.held input) o
  passes : first_ending (opening_checks t.held input like) ≡ None
  header : (unwrap_or (like_under t.held like) (file_under t.held input)).header ≡ q.header
  catalogue : (unwrap_or (like_under t.held like) (file_under t.held input)).catalogue ≡ q.layout.catalogue
  bytes : All (λ x. x < 256) (bytes_held t.held (unwrap_or like input))

source_known : (t : Told) (input : List ℕ) (o : Outline) (bytes : Option (List ℕ)) → bytes_under input t ≡ bytes → IsSomeAnd bytes (λ b. StandsFor b o)
    → StandsFor (bytes_held t.held input) o
source_known t input o None is stands = absurd stands
source_known t input o (Some b) is stands = subst (λ (x : List ℕ). StandsFor x o) (sym (held_is t input b is)) stands

own_known : (t : Told) (input : List ℕ) (o q : Outline) → first_ending (input_checks t.held input) ≡ None → IsSomeAnd (bytes_under input t) (λ b. StandsFor b o)
    → q ≡ o → AreKnown t input None o q
own_known t input o q passes stands same =
    let source = source_known t input o (bytes_under input t) refl stands in
    record {
      source = source;
      passes = passes;
      header = ap (λ (f : File). f.header) source.file ∙ ap (λ (x : Outline). x.header) (sym same);
      catalogue = ap (λ (f : File). f.catalogue) source.file ∙ ap (λ (x : Outline). x.layout.catalogue) (sym same);
      bytes = source.bytes;
    }

like_known : (t : Told) (input cat : List ℕ) (o q : Outline) → first_ending (input_checks t.held input) ≡ None → IsSomeAnd (bytes_under input t) (λ b. StandsFor b o)
    → IsSomeAnd (bytes_under cat t) (λ c. StandsFor c q) → open_fault o.size (bytes_under cat t) ≡ None → AreKnown t input (Some cat) o q
like_known t input cat o q passes stands stands' passes' =
    let source = source_known t input o (bytes_under input t) refl stands in
    let target = source_known t cat q (bytes_under cat t) refl stands' in
    let second : opening_check (length (bytes_held t.held input)) t.held cat ≡ None =
    ap (λ (n : ℕ). opening_check n t.held cat) source.size ∙ ap (option_map (open_ending cat)) passes' in
    record {
      source = source;
      passes = two_pass (opening_check 0 t.held input) (opening_check (length (bytes_held t.held input)) t.held cat)
          (sym (first_of_one (opening_check 0 t.held input)) ∙ passes) second;
      header = ap (λ (f : File). f.header) target.file;
      catalogue = ap (λ (f : File). f.catalogue) target.file;
      bytes = target.bytes;
    }

module _ (t : Told) (input : List ℕ) (like : Option (List ℕ)) (width : Option Width) (order : Option Order) (o q : Outline)
    (sound : IsSound o) (known : AreKnown t input like o q) where
  abbrev f : File
  f = file_under t.held input

  abbrev model : Option File
  model = like_under t.held like

  abbrev refusal : Option Ending
  refusal = writing_refusal (f ∷ []) (convert_draft f model width order)

  own_header : f.header ≡ o.header
  own_header = ap (λ (x : File). x.header) known.source.file

  -- what is too long, by the outlines
  fault_is : width_fault f model width ≡ wanted_fault o q width
  fault_is = λ i. rewidth_fault (known.catalogue i) (known.header i).width (unwrap_or width (own_header i).width)

  -- a draft by the outlines is that of the files
  draft_is : (d : Draft) → IsFormDraft o q width order d → d ≡ convert_draft f model width order
  draft_is d is =
      is (bytes_held t.held input)
      ∙ (λ i. whole_selection (sym known.source.file i)
      (record {
        width = unwrap_or width (sym own_header i).width;
        order = unwrap_or order (sym own_header i).order;
        version = (sym known.header i).version;
      })
      (rewidth (sym known.catalogue i) (sym known.header i).width (unwrap_or width (sym own_header i).width)))

  -- without an option nothing is refused
  plain_passes : is_plain like width order ≡ true → refusal ≡ None
  plain_passes = by like width order
    where
      by : (l : Option (List ℕ)) (w : Option Width) (r : Option Order) → is_plain l w r ≡ true
          → writing_refusal (f ∷ []) (convert_draft f (like_under t.held l) w r) ≡ None
      by None None None plain =
          let few : length f.nodes ≤ most_blocks = let same : length f.nodes ≡ length o.nodes = ap (λ (x : File). length x.nodes) known.source.file in omega (arith, same, sound.few) in
          let small : length (bytes_held t.held input) ≤ most_input_bytes = omega (arith, known.source.size, sound.size) in
          own_passes (bytes_held t.held input) known.source.bytes known.source.accepted few small
      by None None (Some r) plain = absurd (cc)
      by None (Some w) r plain = absurd (cc)
      by (Some cat) w r plain = absurd (cc)

  -- nor is a struct too long
  plain_fits : is_plain like width order ≡ true → width_fault f model width ≡ None
  plain_fits = by like width order
    where
      by : (l : Option (List ℕ)) (w : Option Width) (r : Option Order) → is_plain l w r ≡ true → width_fault f (like_under t.held l) w ≡ None
      by None None None plain =
          let accepted = known.source.accepted in
          rewidth_fault-same f.catalogue f.header.width
          (record { can_be_read = accepted-CanBeRead (bytes_held t.held input) f known.source.bytes accepted; no_fault = accepted.no_layout_fault })
      by None None (Some r) plain = absurd (cc)
      by None (Some w) r plain = absurd (cc)
      by (Some cat) w r plain = absurd (cc)

  abbrev first : Option Ending
  first = first_ending (convert_checks t.held input like width order)

  -- where no struct is too long, the first check that ends the run is the refusal
  first_refusal : width_fault f model width ≡ None → first ≡ refusal
  first_refusal fits = by (is_plain like width order) refl
    where
      by : (plain : Bool) → is_plain like width order ≡ plain
          → first_ending (opening_checks t.held input like ++ cond plain [] (form_checks f model width order)) ≡ refusal
      by true is = split_none (opening_checks t.held input like) [] known.passes ∙ sym (plain_passes is)
      by false is =
          split_none (opening_checks t.held input like) (form_checks f model width order) known.passes
          ∙ ap (λ (o : Option LayoutFault). first_ending (option_map width_ending o ∷ refusal ∷ [])) fits ∙ first_of_one refusal

  -- and else that struct
  first_long : (fault : LayoutFault) → width_fault f model width ≡ Some fault → first ≡ Some (width_ending fault)
  first_long fault long = by (is_plain like width order) refl
    where
      by : (plain : Bool) → is_plain like width order ≡ plain
          → first_ending (opening_checks t.held input like ++ cond plain [] (form_checks f model width order)) ≡ Some (width_ending fault)
      by true is = let none = sym long ∙ plain_fits is in absurd (cc)
      by false is =
          split_none (opening_checks t.held input like) (form_checks f model width order) known.passes
          ∙ ap (λ (o : Option LayoutFault). first_ending (option_map width_ending o ∷ refusal ∷ [])) long

  -- so the draft is written
  is_written : (name : List ℕ) (d : Draft) → wanted_fault o q width ≡ None → IsFormDraft o q width order d
      → IsDraftWritten (convert_meaning input name like width order) t.held f d name
  unfolding convert_meaning convert_outcome
  is_written name d fits draft =
      let is = draft_is d draft in
      record {
        read = (known.source.bytes, known.bytes);
        known = ap (λ (x : Option Ending). unless_ending x (convert_effect f model width order name)) (first_refusal (fault_is ∙ fits))
            ∙ (λ i. unless_ending (writing_refusal (f ∷ []) (sym is i)) (draft_effect (f ∷ []) (sym is i) name));
      }

  -- or the run ends
  is_ended : (name : List ℕ) (fault : LayoutFault) → wanted_fault o q width ≡ Some fault
      → (convert_meaning input name like width order).outcome t.held ≡ Err (width_ending fault)
  unfolding convert_meaning convert_outcome
  is_ended name fault long =
      ap (λ (x : Option Ending). unless_ending x (convert_effect f model width order name)) (first_long fault (fault_is ∙ long))

-- ---- over any shelf

may_miss_input : (input name : List ℕ) (like : Option (List ℕ)) (width : Option Width) (order : Option Order) → (convert_meaning input name like width order).may_miss input
unfolding convert_meaning
may_miss_input input name like width order = inl refl

-- what is known of the files, where the shelf tells
known_told : {S P : Type 0} (g : ShelfGhosts S) (h : Ghosts P) (input : List ℕ) (like : Option (List ℕ)) (s : S) (o q : Outline) (p : P) → IsInput g h input s o p → IsModel (g.told s) like o q
    → IfSome (g.told s) (λ t. AreKnown t input like o q)
known_told g h input like s o q p is model = by like (g.told s) is.passes (stands_named g h input s o p is) model
  where
    by : (l : Option (List ℕ)) (told : Option Told) → IfSome told (λ t. first_ending (input_checks t.held input) ≡ None) → IsHeldAnd told input (λ b. StandsFor b o)
        → IsModel told l o q → IfSome told (λ t. AreKnown t input l o q)
    by l None passes stands model = tt
    by None (Some t) passes stands model = own_known t input o q passes stands model
    by (Some cat) (Some t) passes stands model = like_known t input cat o q passes stands model.0 model.1

-- a conversion writes the draft that is made by the model
pub form_writes : {S P : Type 0} (g : ShelfGhosts S) (h : Ghosts P) (like : Option (List ℕ)) (width : Option Width) (order : Option Order) (s : S) (o q : Outline) (p : P) (d : Draft)
    → IsModel (g.told s) like o q → wanted_fault o q width ≡ None → IsFormDraft o q width order d → IsConversionDraft g h like width order s o p d
form_writes g h like width order s o q p d as_model fits draft = λ input name is. record {
  missed = may_miss_input input name like width order;
  told = by (g.told s) input name is.sound (known_told g h input like s o q p is as_model);
}
  where
    by : (told : Option Told) (input name : List ℕ) → IsSound o → IfSome told (λ t. AreKnown t input like o q)
        → IfSome told (λ t. IsDraftWritten (convert_meaning input name like width order) t.held (file_under t.held input) d name)
    by None input name sound known = tt
    by (Some t) input name sound known = is_written t input like width order o q sound known name d fits draft

-- the same of a draft that may be made
pub forms_written : {S P : Type 0} (g : ShelfGhosts S) (h : Ghosts P) (like : Option (List ℕ)) (width : Option Width) (order : Option Order) (s : S) (o q : Outline) (p : P) (r : Result Draft Ending)
    → IsModel (g.told s) like o q → OnOk r (wanted_fault o q width ≡ None) → IfOk r (IsFormDraft o q width order) → IfOk r (IsConversionDraft g h like width order s o p)
forms_written g h like width order s o q p (Ok d) as_model fits draft = form_writes g h like width order s o q p d as_model fits draft
forms_written g h like width order s o q p (Err e) as_model fits draft = tt

-- the model is the file itself
pub own_model : {S : Type 0} (g : ShelfGhosts S) (like : Option (List ℕ)) (s : S) (o : Outline) → like ≡ None → IsModel (g.told s) like o o
own_model g None s o none = refl
own_model g (Some cat) s o none = absurd (cc)

-- or the file CAT
pub cat_model : {S : Type 0} (g : ShelfGhosts S) (cat : List ℕ) (s : S) (o q : Outline) (agrees : List ℕ → Type 0) → IsHeldAnd (g.told s) cat (λ b. agrees b × StandsFor b q)
    → IfSome (g.told s) (λ t. open_fault o.size (bytes_under cat t) ≡ None) → IsModel (g.told s) (Some cat) o q
cat_model g cat s o q agrees stands passes =
    (IsHeldAnd-weaker (g.told s) cat (λ b. agrees b × StandsFor b q) (λ b. StandsFor b q) stands (λ b is. is.1), passes)

-- without memory a conversion has none
pub conversion_unmade : {S P : Type 0} (g : ShelfGhosts S) (h : Ghosts P) (like : Option (List ℕ)) (width : Option Width) (order : Option Order) (s s' : S) (o : Outline) (p : P)
    → g.room s ≡ None → Keeps g s s' → IsNoConversion g h like width order s s' o p endings.NoMemory
conversion_unmade g h like width order s s' o p empty keeps = λ input name is. memory_unready g (convert_meaning input name like width order) name s s' empty keeps

-- nor where a struct is too long
pub form_unwritten : {S P : Type 0} (g : ShelfGhosts S) (h : Ghosts P) (like : Option (List ℕ)) (width : Option Width) (order : Option Order) (s s' : S) (o q : Outline) (p : P) (e : Ending)
    → g.room s ≡ None → Keeps g s s' → IsModel (g.told s) like o q → IsUnformed o q width e → IsNoConversion g h like width order s s' o p e
form_unwritten g h like width order s s' o q p e empty keeps as_model (inl none) =
    subst (IsNoConversion g h like width order s s' o p) (sym none) (conversion_unmade g h like width order s s' o p empty keeps)
form_unwritten g h like width order s s' o q p e empty keeps as_model (inr (fault, long, says)) = λ input name is.
    subst (IsUnready g (convert_meaning input name like width order) name s s') (sym says)
    (long_unready (convert_meaning input name like width order) name fault (told_long input name is.sound (g.told s) (known_told g h input like s o q p is as_model)))
  where
    told_long : (input name : List ℕ) → IsSound o → (told : Option Told) → IfSome told (λ t. AreKnown t input like o q)
        → IfSome told (λ t. (convert_meaning input name like width order).outcome t.held ≡ Err (width_ending fault))
    told_long input name sound None known = tt
    told_long input name sound (Some t) known = is_ended t input like width order o q sound known name fault long

    long_unready : (m : Meaning) (name : List ℕ) (x : LayoutFault) → IfSome (g.told s) (λ t. m.outcome t.held ≡ Err (width_ending x)) → IsUnready g m name s s' (width_ending x)
    long_unready m name (layout.TooLong n) ends = checked_unready g m name s s' (endings.PastLimit TypeBytes n) empty keeps tt tt ends
    long_unready m name (layout.BadName u k) ends = memory_unready g m name s s' empty keeps
    long_unready m name (layout.BasicLength u k) ends = memory_unready g m name s s' empty keeps
    long_unready m name (layout.Overrun u k) ends = memory_unready g m name s s' empty keeps
    long_unready m name (layout.Cyclic u k) ends = memory_unready g m name s s' empty keeps
    long_unready m name (layout.DuplicateMember u k) ends = memory_unready g m name s s' empty keeps
    long_unready m name (layout.TooDeep n) ends = memory_unready g m name s s' empty keeps
    long_unready m name (layout.TooManyLeaves n) ends = memory_unready g m name s s' empty keeps
    long_unready m name layout.NoMemory ends = memory_unready g m name s s' empty keeps

-- an input that isn't opened is converted to nothing
input_ends : (told : Option Told) (input name : List ℕ) (e : Ending) (m m' f f' : ℕ) (like : Option (List ℕ)) (width : Option Width) (order : Option Order) → BlamesRisen e m m' f f' 0 0
    → IfSome told (λ t. IsChecked (opening_check 0 t.held input) e) → IfSome told (λ t. IsEndingOf ((convert_meaning input name like width order).outcome t.held) e)
unfolding convert_meaning convert_outcome
input_ends None input name e m m' f f' like width order blames checked = tt
input_ends (Some t) input name e m m' f f' like width order blames checked =
    checked_ends (first_ending (convert_checks t.held input like width order))
    (convert_effect (file_under t.held input) (like_under t.held like) width order name) e m m' f f' blames
    (checked_by (opening_check 0 t.held input) (first_ending (convert_checks t.held input like width order)) e
    (λ found. split_some (opening_checks t.held input like)
    (cond (is_plain like width order) [] (form_checks (file_under t.held input) (like_under t.held like) width order)) e (opened_first like found)) checked)
  where
    opened_first : (l : Option (List ℕ)) → opening_check 0 t.held input ≡ Some e → first_ending (opening_checks t.held input l) ≡ Some e
    opened_first None found = first_of_one (opening_check 0 t.held input) ∙ found
    opened_first (Some cat) found = rw found refl

pub conversion_unopened : {S : Type 0} (g : ShelfGhosts S) (input name : List ℕ) (like : Option (List ℕ)) (width : Option Width) (order : Option Order) (s s' : S) (e : Ending)
    → g.room s ≡ None → Keeps g s s' → IsUnopened g 0 input s s' e → IsUnready g (convert_meaning input name like width order) name s s' e
unfolding convert_meaning
conversion_unopened g input name like width order s s' e empty keeps not =
    checked_unready g (convert_meaning input name like width order) name s s' e empty keeps not.blamed.blamed
    (misses_wider (λ file. file ≡ input) (λ file. (file ≡ input) ⊎ IsSomeAnd like (λ cat. file ≡ cat)) (λ file same. inl same) e not.missed)
    (input_ends (g.told s) input name e (g.misses s) (g.misses s') (g.faults s) (g.faults s') like width order not.blamed.blamed not.checked)

-- where CAT isn't opened it ends so
cat_ends : (told : Option Told) (input cat name : List ℕ) (o : Outline) (e : Ending) (m m' f f' : ℕ) (width : Option Width) (order : Option Order) → BlamesRisen e m m' f f' 0 0
    → IfSome told (λ t. first_ending (input_checks t.held input) ≡ None) → IsHeldAnd told input (λ b. StandsFor b o) → IfSome told (λ t. IsChecked (opening_check o.size t.held cat) e)
    → IfSome told (λ t. IsEndingOf ((convert_meaning input name (Some cat) width order).outcome t.held) e)
unfolding convert_meaning convert_outcome
cat_ends None input cat name o e m m' f f' width order blames passes stands checked = tt
cat_ends (Some t) input cat name o e m m' f f' width order blames passes stands checked =
    let source = source_known t input o (bytes_under input t) refl stands in
    let used : ℕ = length (bytes_held t.held input) in
    let first : opening_check 0 t.held input ≡ None = sym (first_of_one (opening_check 0 t.held input)) ∙ passes in
    checked_ends (first_ending (convert_checks t.held input (Some cat) width order))
    (convert_effect (file_under t.held input) (like_under t.held (Some cat)) width order name) e m m' f f' blames
    (checked_by (opening_check used t.held cat) (first_ending (convert_checks t.held input (Some cat) width order)) e
    (λ found. split_some (opening_checks t.held input (Some cat))
    (form_checks (file_under t.held input) (like_under t.held (Some cat)) width order) e (rw (first, found) refl))
    (subst (λ (n : ℕ). IsChecked (opening_check n t.held cat) e) (sym source.size) checked))

pub cat_unopened : {S P : Type 0} (g : ShelfGhosts S) (h : Ghosts P) (cat : List ℕ) (width : Option Width) (order : Option Order) (s s' : S) (o : Outline) (p : P) (e : Ending)
    → g.room s ≡ None → Keeps g s s' → IsUnopened g o.size cat s s' e → IsNoConversion g h (Some cat) width order s s' o p e
unfolding convert_meaning
cat_unopened g h cat width order s s' o p e empty keeps not = λ input name is.
    checked_unready g (convert_meaning input name (Some cat) width order) name s s' e empty keeps not.blamed.blamed
    (misses_wider (λ file. file ≡ cat) (λ file. (file ≡ input) ⊎ (file ≡ cat)) (λ file same. inr same) e not.missed)
    (cat_ends (g.told s) input cat name o e (g.misses s) (g.misses s') (g.faults s) (g.faults s') width order not.blamed.blamed is.passes (stands_named g h input s o p is) not.checked)
