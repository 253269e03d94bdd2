-- The lengths of the payloads of an output, one after another, and the first limit that they pass.
use Rattle.std.proofs.Common.{◌≡◌, ◌≤◌, ◌<◌, inl, inr, ℕ, zero, suc, ◌+◌, Bool, true, false, cond, List, [], ◌∷◌, length, Option, Some, None, option_map, refl, sym, ap, ◌∙◌, arith}
use Rattle.std.specs.Prelude.{map, nat_lt, sum}
use Rattle.std.specs.List.{find, sum_by}
use Rattle.std.specs.Option.{option_or}
use Rattle.std.proofs.lemmas.Bool.{cases_lt, le-ltb, lt-ltb}
use Rattle.std.proofs.lemmas.List.{map-append}
use Rattle.std.proofs.lemmas.List.Folds.{find-append}
use Rattle.std.proofs.lemmas.List.Sums.{sum-map, sum_by-append, sum_by-cons}
use Rattle.bl_format.specs.Limits.{most_output_nodes, longest_payload, longest_output}
use Rattle.bl_format.specs.Words.{numbers_below}
use Rattle.bl_format.specs.Blocks.{head_size}
use Rattle.bl_format.specs.Schema.{catalogue_written}
use Rattle.bl_selection.specs.OutputSizes.{OutputFault, ManyNodes, LongPayload, LongOutput, output_length}
use Rattle.bl_writer.specs.declared.output.Output.{Output}
use Rattle.bl_writer.specs.Outputs.{payload_length, target_of}
use Rattle.bl_writer.specs.Lengths.{blocks_length, form_length, output_fault, output_size}

-- a payload is too long
abbrev pub is_long : ℕ → Bool
is_long n = nat_lt longest_payload n

module _ (o : Output) where
  -- the first of the first n payloads that is too long
  abbrev pub long_below : ℕ → Option ℕ
  long_below n = find is_long (map (payload_length o) (numbers_below n))

  long_next : (n : ℕ) → long_below (suc n) ≡ option_or (long_below n) (find is_long (payload_length o n ∷ []))
  long_next n =
      ap (find is_long) (map-append (payload_length o) (numbers_below n) (n ∷ [])) ∙ find-append is_long (map (payload_length o) (numbers_below n)) (payload_length o n ∷ [])

  -- one that isn't adds nothing
  pub long_not : (n : ℕ) → is_long (payload_length o n) ≡ false → long_below n ≡ None → long_below (n + 1) ≡ None
  long_not n is none =
      let next : n + 1 ≡ suc n = omega arith in
      ap long_below next ∙ long_next n ∙ (λ i. option_or (none i) (cond (is i) (Some (payload_length o n)) None))

  -- and one that is is found
  long_here : (n : ℕ) → is_long (payload_length o n) ≡ true → long_below n ≡ None → long_below (suc n) ≡ Some (payload_length o n)
  long_here n is none = long_next n ∙ (λ i. option_or (none i) (cond (is i) (Some (payload_length o n)) None))

  long_stays : (v n m : ℕ) → n ≤ m → long_below n ≡ Some v → long_below m ≡ Some v
  long_stays v n zero le found = let same : n ≡ 0 = omega (arith, le) in ap long_below (sym same) ∙ found
  long_stays v n (suc m) le found = elim (cases_lt m n) [
    | inl less ↦ (let same : suc m ≡ n = omega (arith, le, less) in ap long_below same ∙ found)
    | inr more ↦ long_next m ∙ ap (λ (x : Option ℕ). option_or x (find is_long (payload_length o m ∷ []))) (long_stays v n m (omega (arith, more)) found)
  ]

  -- so among all
  pub long_found : (n m : ℕ) → n < m → is_long (payload_length o n) ≡ true → long_below n ≡ None → long_below m ≡ Some (payload_length o n)
  long_found n m lt is none = long_stays (payload_length o n) (suc n) m (omega (arith, lt)) (long_here n is none)

  -- ---- all bytes

  sum_is : (n : ℕ) → sum_by (λ m. head_size o.header + m) (map (payload_length o) (numbers_below n)) ≡ blocks_length o n
  unfolding blocks_length
  sum_is zero = refl
  sum_is (suc n) =
      let more : ℕ → ℕ = λ m. head_size o.header + m in
      ap (sum_by more) (map-append (payload_length o) (numbers_below n) (n ∷ [])) ∙ sum_by-append more (map (payload_length o) (numbers_below n)) (payload_length o n ∷ [])
      ∙ ap (λ (m : ℕ). m + sum_by more (payload_length o n ∷ [])) (sum_is n)
      ∙ ap (λ (m : ℕ). blocks_length o n + m) (sum_by-cons more (payload_length o n) [] ∙ omega arith)

  -- the bytes of all parts are those of the form
  pub parts_are : form_length o.header (blocks_length o (length o.nodes.now)) (length (catalogue_written o.header.order (target_of o))) ≡ output_size o
  unfolding output_length
  parts_are =
      let payloads : List ℕ = map (payload_length o) (numbers_below (length o.nodes.now)) in
      ap (λ (n : ℕ). form_length o.header n (length (catalogue_written o.header.order (target_of o))))
      (sym (sum-map (λ m. head_size o.header + m) payloads ∙ sum_is (length o.nodes.now)))

-- what was measured of all nodes
pub record AreAll (o : Output) (bytes : ℕ) : Type 0 where
  pub size : bytes ≡ output_size o
  pub parts : bytes ≡ form_length o.header (blocks_length o (length o.nodes.now)) (length (catalogue_written o.header.order (target_of o)))

-- so it is once all nodes are
pub all_measured : (o : Output) (k blocks catalogue bytes : ℕ) → k ≡ length o.nodes.now → blocks ≡ blocks_length o k
    → catalogue ≡ length (catalogue_written o.header.order (target_of o)) → bytes ≡ form_length o.header blocks catalogue → AreAll o bytes
all_measured o k blocks catalogue bytes all sum written is =
    let parts : bytes ≡ form_length o.header (blocks_length o (length o.nodes.now)) (length (catalogue_written o.header.order (target_of o))) =
    is ∙ (λ i. form_length o.header ((sum ∙ ap (blocks_length o) all) i) (written i)) in
    record { size = parts ∙ parts_are o; parts = parts }

-- ---- the first limit

abbrev limits : (many : Bool) (found : Option ℕ) (long : Bool) (nodes bytes : ℕ) → Option OutputFault
limits many found long nodes bytes =
    option_or (cond many (Some (ManyNodes nodes)) None) (option_or (option_map LongPayload found) (cond long (Some (LongOutput bytes)) None))

module _ (o : Output) (few : length o.nodes.now ≤ most_output_nodes) where
  nodes_few : nat_lt most_output_nodes (length o.nodes.now) ≡ false
  nodes_few = le-ltb most_output_nodes (length o.nodes.now) few

  -- a payload that is too long is the first
  pub payload_fault : (n : ℕ) → long_below o (length o.nodes.now) ≡ Some n → output_fault o ≡ Some (LongPayload n)
  payload_fault n found = λ i. limits (nodes_few i) (found i) (nat_lt longest_output (output_size o)) (length o.nodes.now) (output_size o)

  -- else all bytes may be too many
  pub bytes_fault : (n : ℕ) → n ≡ output_size o → long_below o (length o.nodes.now) ≡ None → longest_output < n → output_fault o ≡ Some (LongOutput n)
  bytes_fault n is none more =
      let long : nat_lt longest_output (output_size o) ≡ true = lt-ltb longest_output (output_size o) (omega (arith, is, more)) in
      (λ i. limits (nodes_few i) (none i) (long i) (length o.nodes.now) (output_size o)) ∙ ap (λ (m : ℕ). Some (LongOutput m)) (sym is)

  -- or none is passed
  pub no_fault : output_size o ≤ longest_output → long_below o (length o.nodes.now) ≡ None → output_fault o ≡ None
  no_fault le none = λ i. limits (nodes_few i) (none i) (le-ltb longest_output (output_size o) le i) (length o.nodes.now) (output_size o)
