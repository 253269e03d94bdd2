-- What the code makes of two leaves that meet is what the definitions carry over: a step writes just what is written of
-- the values, and a clash is told where there is one.
use Rattle.std.proofs.Common.{◌≡◌, ℕ, suc, ◌+◌, ◌-◌, ◌*◌, ◌^◌, ◌≤◌, ◌<◌, Bool, true, false, cond, All, List, [], ◌++◌, length, drop, Option, Some, None, refl, sym, ap, subst, ◌∙◌, arith, inl, inr, eqb-true, eq-eqb, lt-ltb, le-ltb, mul-le-mul_right}
use Rattle.std.specs.Prelude.{◌⊎◌, ◌==◌, ◌&&◌, nat_lt, min, flat_map}
use Rattle.std.proofs.Math.Nat.{add-mul}
use Rattle.std.proofs.lemmas.Bool.{ltb-true, cases_lt}
use Rattle.std.proofs.lemmas.List.{length-take-le, length-drop}
use Rattle.std.proofs.lemmas.List.Elements.{All-take, All-drop}
use Rattle.bl_num.specs.declared.number.Order.{Order}
use Rattle.bl_num.specs.declared.number.Width.{Width}
use Rattle.bl_num.specs.declared.number.Width.TheVariants.{Four, Eight}
use Rattle.bl_num.specs.declared.number.Whole.{Whole}
use Rattle.bl_num.specs.Numbers.{IsWholeLength, pointer_bytes, number_of, bytes_of, bits_of, number_meant}
use Rattle.bl_num.proofs.BytesOf.{number_of-lt}
use Rattle.bl_format.specs.declared.layout.Kind.{Kind}
use Rattle.bl_format.specs.declared.layout.Kind.TheVariants as kinds
use Rattle.bl_format.specs.Words.{part, zeros, numbers_below}
use Rattle.bl_format.specs.Layout.{NamedLeaf, leaf_of}
use Rattle.bl_format.specs.Graph.{Target, Naming, Value, value_by, leaf_bytes, leaf_value}
use Rattle.bl_format.proofs.LeafKinds.{FitsKind, HasBytes}
use Rattle.bl_format.proofs.LeavesApart.{end_of_leaf}
use Rattle.bl_selection.specs.Written.{value_written, address_of}
use Rattle.bl_selection.specs.Fate.{is_char, same_type, kept_count, zero_of_kind, zero_of, converted_value, value_from, kinds_clash}
use Rattle.bl_plan.specs.declared.steps.Carry.{Carry}
use Rattle.bl_plan.specs.declared.steps.Carry.TheVariants.{Kept, Cast, Pointers}
use Rattle.bl_plan.specs.declared.steps.Step.{Step}
use Rattle.bl_plan.specs.declared.meeting.Meeting.{Meeting}
use Rattle.bl_plan.specs.declared.meeting.Meeting.TheVariants.{Fresh, Carried, Clash}
use Rattle.bl_plan.specs.Steps.{source_size, target_size, element_carried, step_written, step_end, StepFits}
use Rattle.bl_plan.specs.Meetings.{step_between, whole_carry, meeting_by, meeting_at, is_opaque, are_alike}
use Rattle.bl_plan.proofs.StepsBehind.{run_by, both_true}
use Rattle.bl_plan.proofs.ElementsCarried.{zero_written, flat_map-same, kept_and_zeros, parts_joined, byte_carried, bits_of_bytes, cast_written, cast_kept}
use Rattle.bl_plan.proofs.FloatNames.{KindIsNamed, floats_alike}

-- ---- sizes

-- n elements of a leaf end where m do or before
few_elements : (at size n m : ℕ) → n ≤ m → at + n * size ≤ at + size * m
few_elements at size n m le =
    let all : n * size ≤ m * size = mul-le-mul_right size le in
    let turned : m * size ≡ size * m = omega arith in
    omega (arith, all, turned)

-- what stands behind m of n elements
behind_kept : (at size m n : ℕ) → m ≤ n → (n - m) * size ≡ at + size * n - (at + m * size)
behind_kept at size m n le =
    let sum : m + (n - m) ≡ n = omega (arith, le) in
    let all : n * size ≡ m * size + (n - m) * size = ap (λ (k : ℕ). k * size) (sym sum) ∙ add-mul m (n - m) size in
    let turned : size * n ≡ n * size = omega arith in
    omega (arith, all, turned)

-- no more elements are kept than either leaf has
pub kept_few : (x y : NamedLeaf) → (kept_count x y ≤ x.count) × (kept_count x y ≤ y.count)
kept_few x y = go (is_char x && is_char y && nat_lt y.count x.count) (λ e. ltb-true y.count x.count (both_true (is_char x && is_char y) (nat_lt y.count x.count) e).1)
  where
    go : (b : Bool) → (b ≡ true → y.count < x.count) → (cond b (y.count - 1) (min x.count y.count) ≤ x.count) × (cond b (y.count - 1) (min x.count y.count) ≤ y.count)
    go true less = (omega (arith, less refl), omega arith)
    go false less = (omega arith, omega arith)

-- a leaf of a struct of n bytes at a width
pub record IsSound (w : Width) (n : ℕ) (x : NamedLeaf) : Type 0 where
  pub size : FitsKind w x.kind x.size
  pub some : HasBytes x
  pub within : end_of_leaf x ≤ n
  pub named : KindIsNamed x.kind x.type_name

-- an element of such a leaf has all its bytes
length-element : (w : Width) (n : ℕ) (x : NamedLeaf) (src : List ℕ) (k : ℕ) → IsSound w n x → length src ≡ n → k < x.count
    → length (leaf_bytes x src k) ≡ x.size
length-element w n x src k sound long lt =
    let one : suc k * x.size ≤ x.count * x.size = mul-le-mul_right x.size (omega (arith, lt)) in
    let turned : x.count * x.size ≡ x.size * x.count = omega arith in
    let sum : suc k * x.size ≡ k * x.size + x.size = omega arith in
    length-take-le x.size (drop (x.offset + k * x.size) src)
    (omega (arith, one, turned, sum, sound.within, long, length-drop (x.offset + k * x.size) src))

-- ---- what each kind of leaf comes to

-- what is written of an element's value, by the kinds of both leaves
abbrev value_image : Naming Target → Order → Order → Bool → Kind → Kind → ℕ → List ℕ → List ℕ
value_image names from to alike kx ky size bytes =
    value_written to size (converted_value alike (zero_of_kind None ky size) kx ky (value_by kx names from bytes))

-- a way to carry elements over, of n bytes each to m bytes each, is that of two kinds
record CarriesKinds (alike : Bool) (kx ky : Kind) (n m : ℕ) (carry : Carry) : Type 0 where
  pub source : source_size carry ≡ n
  pub target : target_size carry ≡ m
  pub source_whole : IsWholeLength n
  pub target_whole : IsWholeLength m
  pub written : (names : Naming Target) (from to : Order) (bytes : List ℕ) → length bytes ≡ n → All (λ b. b < 256) bytes
      → value_image names from to alike kx ky m bytes ≡ element_carried names from to carry bytes

pointer_whole : (w : Width) (n : ℕ) → n ≡ pointer_bytes w → IsWholeLength n
pointer_whole Four n is = inr (inr (inl is))
pointer_whole Eight n is = inr (inr (inr is))

pointers_carried : (v w : Width) (alike : Bool) (a s b t n m : ℕ) → n ≡ pointer_bytes v → m ≡ pointer_bytes w
    → CarriesKinds alike (kinds.Pointer a s) (kinds.Pointer b t) n m (Pointers v w)
pointers_carried v w alike a s b t n m source target = record {
  source = sym source;
  target = sym target;
  source_whole = pointer_whole v n source;
  target_whole = pointer_whole w m target;
  written = λ names from to bytes long all.
      ap (λ (k : ℕ). bytes_of to m (address_of (names (number_of from k bytes)))) (long ∙ source)
      ∙ ap (λ (k : ℕ). bytes_of to k (address_of (names (number_of from (pointer_bytes v) bytes)))) target;
}

wholes_by : (alike : Bool) (a b : Whole) (n m : ℕ) (t : Bool) → (a.bytes == b.bytes) ≡ t → (n ≡ a.bytes) × IsWholeLength n → (m ≡ b.bytes) × IsWholeLength m
    → CarriesKinds alike (kinds.Whole a) (kinds.Whole b) n m (cond t (Kept a.bytes) (Cast a b))
wholes_by alike a b n m false is source target = record {
  source = sym source.0;
  target = sym target.0;
  source_whole = source.1;
  target_whole = target.1;
  written = λ names from to bytes long all.
      ap (λ (k : ℕ). bytes_of to k (bits_of k (number_meant b (bits_of b.bytes (number_meant a (number_of from a.bytes bytes)))))) target.0
      ∙ ap (bytes_of to b.bytes) (cast_written (number_of from a.bytes bytes) a b);
}
wholes_by alike a b n m true is source target =
    let same : a.bytes ≡ b.bytes = eqb-true a.bytes b.bytes is in
    record {
      source = sym source.0;
      target = same ∙ sym target.0;
      source_whole = source.1;
      target_whole = target.1;
      written = λ names from to bytes long all.
          let v : ℕ = number_of from a.bytes bytes in
          let small : v < 2 ^ (8 * a.bytes) = rw (bits_of_bytes a.bytes (subst IsWholeLength source.0 source.1)) (number_of-lt from a.bytes bytes all) in
          ap (λ (k : ℕ). bytes_of to k (bits_of k (number_meant b (bits_of b.bytes (number_meant a v))))) target.0
          ∙ ap (bytes_of to b.bytes) (cast_written v a b ∙ cast_kept v a b same small)
          ∙ ap (λ (k : ℕ). bytes_of to k v) (sym same);
    }

float_whole : (n : ℕ) → (n ≡ 4) ⊎ (n ≡ 8) → IsWholeLength n
float_whole n (inl is) = inr (inr (inl is))
float_whole n (inr is) = inr (inr (inr is))

floats_carried : (alike : Bool) (a b n m : ℕ) → alike ≡ true → a ≡ b → (n ≡ a) × ((n ≡ 4) ⊎ (n ≡ 8)) → (m ≡ b) × ((m ≡ 4) ⊎ (m ≡ 8))
    → CarriesKinds alike (kinds.Bits a) (kinds.Bits b) n m (Kept a)
floats_carried alike a b n m is same source target = record {
  source = sym source.0;
  target = same ∙ sym target.0;
  source_whole = float_whole n source.1;
  target_whole = float_whole m target.1;
  written = λ names from to bytes long all.
      ap (λ (t : Bool). value_image names from to t (kinds.Bits a) (kinds.Bits b) m bytes) is
      ∙ ap (λ (k : ℕ). bytes_of to k (number_of from a bytes)) (target.0 ∙ sym same);
}

-- opaque bytes of one type are written as they are
opaque_value : (names : Naming Target) (from to : Order) (kx ky : Kind) (alike : Bool) (size : ℕ) (bytes : List ℕ) → kx ≡ kinds.Opaque → ky ≡ kinds.Opaque → alike ≡ true
    → value_image names from to alike kx ky size bytes ≡ bytes
opaque_value names from to kx ky alike size bytes first second same = rw (first, second, same) refl

-- ---- what is written of a leaf

-- what is written of the values that are carried over to a leaf, from the one that it meets or from none
abbrev pub values_written : Naming Target → Order → Order → List ℕ → Option NamedLeaf → NamedLeaf → List ℕ
values_written names from to src o y = flat_map (λ k. value_written to y.size (value_from None names from src o y k)) (numbers_below y.count)

-- some leaf becomes zeros
pub record BecomesZeros (n : ℕ) (o : Option NamedLeaf) (y : NamedLeaf) : Type 0 where
  pub written : (names : Naming Target) (from to : Order) (src : List ℕ) → length src ≡ n → All (λ b. b < 256) src
      → values_written names from to src o y ≡ zeros (y.size * y.count)

-- a step carries it over, and zeros stand behind it
pub record IsCarriedBy (n : ℕ) (o : Option NamedLeaf) (y : NamedLeaf) (step : Step) : Type 0 where
  pub fits : StepFits n step
  pub place : step.to ≡ y.offset
  pub end : step_end step ≤ end_of_leaf y
  pub written : (names : Naming Target) (from to : Order) (src : List ℕ) → length src ≡ n → All (λ b. b < 256) src
      → values_written names from to src o y ≡ step_written names from to src step ++ zeros (end_of_leaf y - step_end step)

-- the leaf clashes with the one that it meets
abbrev pub clashes_with : Option NamedLeaf → NamedLeaf → Bool
clashes_with None y = false
clashes_with (Some x) y = kinds_clash (same_type x y) x.kind y.kind

-- what becomes of a leaf is told right
abbrev pub IsMet : ℕ → Option NamedLeaf → NamedLeaf → Meeting → Type 0
IsMet n o y Fresh = BecomesZeros n o y × (clashes_with o y ≡ false)
IsMet n o y (Carried step) = IsCarriedBy n o y step × (clashes_with o y ≡ false)
IsMet n o y Clash = clashes_with o y ≡ true

-- a leaf of which all values are zero
all_zero : (order : Order) (y : NamedLeaf) (value : ℕ → Value Target) → ((k : ℕ) → k < y.count → value k ≡ zero_of None y)
    → flat_map (λ k. value_written order y.size (value k)) (numbers_below y.count) ≡ zeros (y.size * y.count)
all_zero order y value are =
    let whole : y.count - 0 ≡ y.count = omega arith in
    let other : y.count * y.size ≡ y.size * y.count = omega arith in
    let turned : (y.count - 0) * y.size ≡ y.size * y.count = ap (λ (n : ℕ). n * y.size) whole ∙ other in
    flat_map-same (λ k. value_written order y.size (value k)) (λ k. zeros y.size) y.count
    (λ k lt. ap (value_written order y.size) (are k lt) ∙ zero_written order y.kind y.size)
    ∙ kept_and_zeros (λ k. zeros y.size) (λ k. []) y.size 0 y.count (omega arith) (λ k lt. absurd (omega (arith, lt))) (λ k le. refl)
    ∙ ap zeros turned

-- a leaf that meets none is zero
pub fresh_met : (n : ℕ) (y : NamedLeaf) → IsMet n None y Fresh
fresh_met n y = (record { written = λ names from to src long all. all_zero to y (λ k. value_from None names from src None y k) (λ k lt. refl) }, refl)

module _ (v w : Width) (n m : ℕ) (x y : NamedLeaf) (source : IsSound v n x) (target : IsSound w m y) where
  -- whether both have one type name and one size
  abbrev alike : Bool
  alike = same_type x y && x.size == y.size

  -- the value of an element below the kept ones, and of the others
  value_kept : (names : Naming Target) (from : Order) (src : List ℕ) (k : ℕ) → k < kept_count x y
      → value_from None names from src (Some x) y k ≡ converted_value alike (zero_of None y) x.kind y.kind (value_by x.kind names from (leaf_bytes x src k))
  unfolding leaf_value
  value_kept names from src k lt =
      ap (λ (t : Bool). cond t (converted_value alike (zero_of None y) x.kind y.kind (value_by x.kind names from (leaf_bytes x src k))) (zero_of None y)) (lt-ltb k (kept_count x y) lt)

  value_behind : (names : Naming Target) (from : Order) (src : List ℕ) (k : ℕ) → kept_count x y ≤ k
      → value_from None names from src (Some x) y k ≡ zero_of None y
  unfolding leaf_value
  value_behind names from src k le =
      ap (λ (t : Bool). cond t (converted_value alike (zero_of None y) x.kind y.kind (value_by x.kind names from (leaf_bytes x src k))) (zero_of None y)) (le-ltb k (kept_count x y) le)

  below_256 : (src : List ℕ) (k : ℕ) → All (λ b. b < 256) src → All (λ b. b < 256) (leaf_bytes x src k)
  below_256 src k all = All-take (λ b. b < 256) x.size (drop (x.offset + k * x.size) src) (All-drop (λ b. b < 256) (x.offset + k * x.size) src all)

  -- a step carries over what its way to carry elements does
  carried_met : (carry : Carry) → CarriesKinds alike x.kind y.kind x.size y.size carry
      → IsCarriedBy n (Some x) y (step_between (leaf_of x) (leaf_of y) (kept_count x y) carry)
  unfolding step_written
  carried_met carry carries =
      let kept : ℕ = kept_count x y in
      let few = kept_few x y in
      let ends = few_elements y.offset y.size kept y.count few.1 in
      let left : (y.count - kept) * y.size ≡ end_of_leaf y - (y.offset + kept * y.size) =
      behind_kept y.offset y.size kept y.count few.1 in
      record {
        fits = record {
          inside = subst (λ (k : ℕ). x.offset + kept * k ≤ n) (sym carries.source)
              (let le = few_elements x.offset x.size kept x.count few.0 in omega (arith, le, source.within));
          source = subst IsWholeLength (sym carries.source) carries.source_whole;
          target = subst IsWholeLength (sym carries.target) carries.target_whole;
        };
        place = refl;
        end = subst (λ (k : ℕ). y.offset + kept * k ≤ end_of_leaf y) (sym carries.target) ends;
        written = λ names from to src long all.
            kept_and_zeros (λ k. value_written to y.size (value_from None names from src (Some x) y k))
            (λ k. element_carried names from to carry (leaf_bytes x src k)) y.size kept y.count few.1
            (λ k lt. ap (value_written to y.size) (value_kept names from src k lt)
            ∙ carries.written names from to (leaf_bytes x src k) (length-element v n x src k source long (omega (arith, lt, few.0))) (below_256 src k all))
            (λ k le. ap (value_written to y.size) (value_behind names from src k le) ∙ zero_written to y.kind y.size)
            ∙ ap (λ (k : ℕ). run_by (element_carried names from to carry) src x.offset k kept ++ zeros ((y.count - kept) * y.size)) (sym carries.source)
            ∙ ap (λ (k : ℕ). run_by (element_carried names from to carry) src x.offset (source_size carry) kept ++ zeros k) left
            ∙ ap (λ (k : ℕ). run_by (element_carried names from to carry) src x.offset (source_size carry) kept ++ zeros (end_of_leaf y - (y.offset + kept * k))) (sym carries.target);
      }

  -- opaque bytes are carried over byte by byte
  bytes_met : x.kind ≡ kinds.Opaque → y.kind ≡ kinds.Opaque → alike ≡ true
      → IsCarriedBy n (Some x) y (step_between (leaf_of x) (leaf_of y) (kept_count x y * x.size) (Kept 1))
  unfolding step_written
  bytes_met first second same =
      let kept : ℕ = kept_count x y in
      let few = kept_few x y in
      let size : x.size ≡ y.size = eqb-true x.size y.size (both_true (same_type x y) (x.size == y.size) same).1 in
      let bytes : kept * x.size * 1 ≡ kept * x.size = omega arith in
      let inside : x.offset + kept * x.size ≤ n = (let le = few_elements x.offset x.size kept x.count few.0 in omega (arith, le, source.within)) in
      let end : y.offset + kept * x.size * 1 ≡ y.offset + kept * y.size = ap (λ (k : ℕ). y.offset + k) bytes ∙ ap (λ (k : ℕ). y.offset + kept * k) size in
      let left : (y.count - kept) * y.size ≡ end_of_leaf y - (y.offset + kept * x.size * 1) =
      behind_kept y.offset y.size kept y.count few.1 ∙ ap (λ (k : ℕ). end_of_leaf y - k) (sym end) in
      record {
        fits = record { inside = omega (arith, bytes, inside); source = inl refl; target = inl refl };
        place = refl;
        end = subst (λ (k : ℕ). k ≤ end_of_leaf y) (sym end) (few_elements y.offset y.size kept y.count few.1);
        written = λ names from to src long all.
            let as_bytes : (i : ℕ) → i < kept * x.size → element_carried names from to (Kept 1) (part src (x.offset + i * 1) 1) ≡ part src (x.offset + i * 1) 1 = λ i lt.
            byte_carried from to (part src (x.offset + i * 1) 1)
            (All-take (λ b. b < 256) 1 (drop (x.offset + i * 1) src) (All-drop (λ b. b < 256) (x.offset + i * 1) src all))
            (length-take-le 1 (drop (x.offset + i * 1) src) (omega (arith, lt, inside, long, length-drop (x.offset + i * 1) src))) in
            kept_and_zeros (λ k. value_written to y.size (value_from None names from src (Some x) y k))
            (λ k. leaf_bytes x src k) y.size kept y.count few.1
            (λ k lt. ap (value_written to y.size) (value_kept names from src k lt)
            ∙ opaque_value names from to x.kind y.kind alike y.size (leaf_bytes x src k) first second same)
            (λ k le. ap (value_written to y.size) (value_behind names from src k le) ∙ zero_written to y.kind y.size)
            ∙ ap (λ (t : List ℕ). t ++ zeros ((y.count - kept) * y.size)) (parts_joined src x.offset x.size kept)
            ∙ ap (λ (k : ℕ). part src x.offset k ++ zeros ((y.count - kept) * y.size)) (sym bytes)
            ∙ ap (λ (t : List ℕ). t ++ zeros ((y.count - kept) * y.size)) (sym (parts_joined src x.offset 1 (kept * x.size)))
            ∙ ap (λ (t : List ℕ). t ++ zeros ((y.count - kept) * y.size))
            (sym (flat_map-same (λ i. element_carried names from to (Kept 1) (part src (x.offset + i * 1) 1)) (λ i. part src (x.offset + i * 1) 1) (kept * x.size) as_bytes))
            ∙ ap (λ (k : ℕ). run_by (element_carried names from to (Kept 1)) src x.offset 1 (kept * x.size) ++ zeros k) left;
      }

  -- ---- by the kinds of both

  -- what two leaves of these kinds come to is told right
  abbrev IsOutcome : Kind → Kind → Meeting → Type 0
  IsOutcome kx ky Fresh =
      ((names : Naming Target) (from : Order) (bytes : List ℕ) → converted_value alike (zero_of_kind None ky y.size) kx ky (value_by kx names from bytes) ≡ zero_of_kind None ky y.size)
      × (kinds_clash (same_type x y) kx ky ≡ false)
  IsOutcome kx ky (Carried step) =
      (((carry : Carry) × (step ≡ step_between (leaf_of x) (leaf_of y) (kept_count x y) carry) × CarriesKinds alike kx ky x.size y.size carry)
      ⊎ ((step ≡ step_between (leaf_of x) (leaf_of y) (kept_count x y * x.size) (Kept 1)) × (kx ≡ kinds.Opaque) × (ky ≡ kinds.Opaque) × (alike ≡ true)))
      × (kinds_clash (same_type x y) kx ky ≡ false)
  IsOutcome kx ky Clash = kinds_clash (same_type x y) kx ky ≡ true

  -- floats
  floats_come : (a b : ℕ) (t : Bool) → (a == b) ≡ t → FitsKind v (kinds.Bits a) x.size → FitsKind w (kinds.Bits b) y.size
      → KindIsNamed (kinds.Bits a) x.type_name → KindIsNamed (kinds.Bits b) y.type_name
      → IsOutcome (kinds.Bits a) (kinds.Bits b) (cond t (Carried (step_between (leaf_of x) (leaf_of y) (kept_count x y) (Kept a))) Clash)
  floats_come a b false is fits others first second =
      let differ : same_type x y ≡ false = floats_alike a b x.type_name y.type_name first second ∙ is in
      ap (λ (t : Bool). kinds_clash t (kinds.Bits a) (kinds.Bits b)) differ
  floats_come a b true is fits others first second =
      let one : same_type x y ≡ true = floats_alike a b x.type_name y.type_name first second ∙ is in
      let same : a ≡ b = eqb-true a b is in
      let sizes : x.size ≡ y.size = fits.0 ∙ same ∙ sym others.0 in
      let both : alike ≡ true = ap (λ (t : Bool). t && x.size == y.size) one ∙ eq-eqb x.size y.size sizes in (
        inl (Kept a, refl, floats_carried alike a b x.size y.size both same fits others),
        ap (λ (t : Bool). kinds_clash t (kinds.Bits a) (kinds.Bits b)) one,
      )

  -- opaque bytes
  bytes_come : (t : Bool) → alike ≡ t
      → IsOutcome kinds.Opaque kinds.Opaque (cond t (Carried (step_between (leaf_of x) (leaf_of y) (kept_count x y * x.size) (Kept 1))) Fresh)
  bytes_come false is = (λ names from bytes. ap (λ (t : Bool). converted_value t (zero_of_kind None kinds.Opaque y.size) kinds.Opaque kinds.Opaque (value_by kinds.Opaque names from bytes)) is, refl)
  bytes_come true is = (inr (refl, refl, refl, is), refl)

  come_to : (kx ky : Kind) (o : Bool) → FitsKind v kx x.size → FitsKind w ky y.size → KindIsNamed kx x.type_name → KindIsNamed ky y.type_name
      → (is_opaque kx ≡ true → is_opaque ky ≡ true → o ≡ alike)
      → IsOutcome kx ky (meeting_by v w (leaf_of x) (leaf_of y) (kept_count x y) o kx ky)
  unfolding meeting_by whole_carry
  come_to (kinds.Pointer a s) (kinds.Pointer b t) o fits others first second opaque =
      (inl (Pointers v w, refl, pointers_carried v w alike a s b t x.size y.size fits others), refl)
  come_to (kinds.Pointer a s) (kinds.Whole b) o fits others first second opaque = (λ names from bytes. refl, refl)
  come_to (kinds.Pointer a s) (kinds.Bits b) o fits others first second opaque = (λ names from bytes. refl, refl)
  come_to (kinds.Pointer a s) kinds.Opaque o fits others first second opaque = (λ names from bytes. refl, refl)
  come_to (kinds.Whole a) (kinds.Pointer b t) o fits others first second opaque = (λ names from bytes. refl, refl)
  come_to (kinds.Whole a) (kinds.Whole b) o fits others first second opaque =
      (inl (whole_carry a b, refl, wholes_by alike a b x.size y.size (a.bytes == b.bytes) refl fits others), refl)
  come_to (kinds.Whole a) (kinds.Bits b) o fits others first second opaque = refl
  come_to (kinds.Whole a) kinds.Opaque o fits others first second opaque = (λ names from bytes. refl, refl)
  come_to (kinds.Bits a) (kinds.Pointer b t) o fits others first second opaque = (λ names from bytes. refl, refl)
  come_to (kinds.Bits a) (kinds.Whole b) o fits others first second opaque = refl
  come_to (kinds.Bits a) (kinds.Bits b) o fits others first second opaque = floats_come a b (a == b) refl fits others first second
  come_to (kinds.Bits a) kinds.Opaque o fits others first second opaque = (λ names from bytes. refl, refl)
  come_to kinds.Opaque (kinds.Pointer b t) o fits others first second opaque = (λ names from bytes. refl, refl)
  come_to kinds.Opaque (kinds.Whole b) o fits others first second opaque = (λ names from bytes. refl, refl)
  come_to kinds.Opaque (kinds.Bits b) o fits others first second opaque = (λ names from bytes. refl, refl)
  come_to kinds.Opaque kinds.Opaque o fits others first second opaque = bytes_come o (sym (opaque refl refl))

  -- ---- the law

  same_tests : (p q : Bool) → is_opaque x.kind ≡ p → is_opaque y.kind ≡ q → p ≡ true → q ≡ true → are_alike x y ≡ alike
  same_tests p q first second p_is q_is =
      ap (λ (t : Bool). t && is_opaque y.kind && x.size == y.size && same_type x y) (first ∙ p_is)
      ∙ ap (λ (t : Bool). t && x.size == y.size && same_type x y) (second ∙ q_is)
      ∙ turned (x.size == y.size) (same_type x y)
    where
      turned : (a b : Bool) → (a && b) ≡ (b && a)
      turned true true = refl
      turned true false = refl
      turned false true = refl
      turned false false = refl

  by_outcome : (met : Meeting) → IsOutcome x.kind y.kind met → IsMet n (Some x) y met
  by_outcome Fresh outcome = (
    record {
      written = λ names from to src long all. all_zero to y (λ k. value_from None names from src (Some x) y k) (λ k lt. elim (cases_lt k (kept_count x y)) [
        | inl less ↦ (value_kept names from src k less ∙ outcome.0 names from (leaf_bytes x src k))
        | inr most ↦ value_behind names from src k most
      ]);
    },
    outcome.1,
  )
  by_outcome (Carried step) outcome = (
    elim outcome.0 [
      | inl by_elements ↦ subst (IsCarriedBy n (Some x) y) (sym by_elements.1) (carried_met by_elements.0 by_elements.2)
      | inr as_bytes ↦ subst (IsCarriedBy n (Some x) y) (sym as_bytes.0) (bytes_met as_bytes.1 as_bytes.2 as_bytes.3)
    ],
    outcome.1,
  )
  by_outcome Clash outcome = outcome

  -- what two leaves that meet come to is told right
  pub both_met : IsMet n (Some x) y (meeting_at v w x y)
  unfolding meeting_at
  both_met =
      by_outcome (meeting_by v w (leaf_of x) (leaf_of y) (kept_count x y) (are_alike x y) x.kind y.kind)
      (come_to x.kind y.kind (are_alike x y) source.size target.size source.named target.named (λ first second. same_tests true true first second refl refl))
