-- The blocks that are computed of a file are those of its reading, and so are the faults. What holds of each.
use Rattle.std.proofs.Common.{◌≡◌, ◌⊎◌, ℕ, zero, suc, ◌+◌, ◌-◌, ◌*◌, ◌^◌, ◌≤◌, ◌<◌, Bool, true, false, ◌&&◌, if◌then◌else◌, List, [], ◌∷◌, ◌++◌, length, take, drop, Result, Ok, Err, All, codes, refl, sym, ap, subst, ◌∙◌, inl, inr, nat_eq, ◌==◌, arith}
use Rattle.std.proofs.Math.Nat.{suc-mul}
use Rattle.std.proofs.lemmas.Bool.{ltb-false, leb-false}
use Rattle.std.proofs.lemmas.List.{length-drop, length-take}
use Rattle.std.proofs.lemmas.List.Elements.{All-nil, All-cons, All-drop}
use Rattle.std.specs.Prelude.{nat_lt}
use Rattle.std.specs.Str.{bytes_eq}
use Rattle.bl_num.proofs.BytesOf.{number_of-lt}
use Rattle.bl_num.specs.Numbers.{pointer_bytes}
use Rattle.bl_format.specs.declared.file.Header.{Header}
use Rattle.bl_format.specs.declared.file.Head.{Head}
use Rattle.bl_format.specs.declared.file.BlockFault.{BlockFault}
use Rattle.bl_format.specs.declared.file.BlockFault.TheVariants.{TooManyBlocks}
use Rattle.bl_format.specs.declared.file.Step.{Step}
use Rattle.bl_format.specs.declared.file.Step.TheVariants.{Block, End}
use Rattle.bl_format.specs.Words.{number_at}
use Rattle.bl_format.specs.Blocks.{header_of, header_size, head_size, head_in, code_meant, is_negative, checked_head, step_in, step_at, most_blocks, with_block, blocks_within, blocks_of, AreBlocks, Reads, Breaks, HasTooManyBlocks, HasBlockFault}

-- blocks stand from a place on, and behind them the file ends
pub record HasBlocksToEnd (h : Header) (b : List ℕ) (at : ℕ) (blocks : List Head) : Type 0 where
  pub end : ℕ
  pub blocks_stand : AreBlocks h b at blocks end
  pub ends : step_at h b end ≡ Ok End

-- fewer than n blocks stand from a place on, and behind them a check fails
pub record HasFault (h : Header) (b : List ℕ) (at n : ℕ) (fault : BlockFault) : Type 0 where
  pub blocks : List Head
  pub end : ℕ
  pub blocks_stand : AreBlocks h b at blocks end
  pub few : length blocks < n
  pub fails : step_at h b end ≡ Err fault

-- n blocks stand from a place on
pub record HasBlocks (h : Header) (b : List ℕ) (at n : ℕ) : Type 0 where
  pub blocks : List Head
  pub end : ℕ
  pub blocks_stand : AreBlocks h b at blocks end
  pub number : length blocks ≡ n

with_block-ok : (x : Head) (r : Result (List Head) BlockFault) (xs : List Head) → with_block x r ≡ Ok xs → (ys : List Head) × (r ≡ Ok ys) × (xs ≡ x ∷ ys)
with_block-ok x (Ok ys) xs e = (ys, refl, cc)
with_block-ok x (Err fault) xs e = absurd (cc)

with_block-err : (x : Head) (r : Result (List Head) BlockFault) (fault : BlockFault) → with_block x r ≡ Err fault → r ≡ Err fault
with_block-err x (Ok ys) fault e = absurd (cc)
with_block-err x (Err other) fault e = let same : other ≡ fault = cc in ap Err same

module _ (h : Header) (b : List ℕ) where
  -- ---- one step

  pub blocks_within-block : (n at : ℕ) (x : Head) → step_at h b at ≡ Ok (Block x) → blocks_within (suc n) h b at ≡ with_block x (blocks_within n h b (at + head_size h + x.len))
  unfolding blocks_within
  blocks_within-block n at x e = rw e refl

  pub blocks_within-end : (n at : ℕ) → step_at h b at ≡ Ok End → blocks_within (suc n) h b at ≡ Ok []
  unfolding blocks_within
  blocks_within-end n at e = rw e refl

  pub blocks_within-fault : (n at : ℕ) (fault : BlockFault) → step_at h b at ≡ Err fault → blocks_within (suc n) h b at ≡ Err fault
  unfolding blocks_within
  blocks_within-fault n at fault e = rw e refl

  pub blocks_within-zero : (at : ℕ) → blocks_within 0 h b at ≡ Err (TooManyBlocks (most_blocks + 1))
  unfolding blocks_within
  blocks_within-zero at = refl

  -- ---- from what stands to what is computed

  pub within_ends : (n at end : ℕ) (xs : List Head) → AreBlocks h b at xs end → step_at h b end ≡ Ok End → length xs < n → blocks_within n h b at ≡ Ok xs
  within_ends zero at end xs stand ends few = absurd (omega arith)
  within_ends (suc n) at end [] stand ends few = blocks_within-end n at (subst (λ i. step_at h b i ≡ Ok End) (sym stand) ends)
  within_ends (suc n) at end (x ∷ xs) stand ends few =
      blocks_within-block n at x stand.0 ∙ ap (with_block x) (within_ends n (at + head_size h + x.len) end xs stand.1 ends (omega arith))

  pub within_fails : (n at end : ℕ) (xs : List Head) (fault : BlockFault) → AreBlocks h b at xs end → step_at h b end ≡ Err fault → length xs < n → blocks_within n h b at ≡ Err fault
  within_fails zero at end xs fault stand fails few = absurd (omega arith)
  within_fails (suc n) at end [] fault stand fails few = blocks_within-fault n at fault (subst (λ i. step_at h b i ≡ Err fault) (sym stand) fails)
  within_fails (suc n) at end (x ∷ xs) fault stand fails few =
      blocks_within-block n at x stand.0 ∙ ap (with_block x) (within_fails n (at + head_size h + x.len) end xs fault stand.1 fails (omega arith))

  pub within_full : (n at end : ℕ) (xs : List Head) → AreBlocks h b at xs end → length xs ≡ n → blocks_within n h b at ≡ Err (TooManyBlocks (most_blocks + 1))
  within_full zero at end xs stand full = blocks_within-zero at
  within_full (suc n) at end [] stand full = absurd (omega arith)
  within_full (suc n) at end (x ∷ xs) stand full =
      blocks_within-block n at x stand.0 ∙ ap (with_block x) (within_full n (at + head_size h + x.len) end xs stand.1 (omega arith))

  -- ---- from what is computed to what stands

  abbrev Ended : ℕ → ℕ → List Head → Type 0
  Ended n at xs = HasBlocksToEnd h b at xs × (length xs < n)

  ended_step : (n at : ℕ) (xs : List Head) (r : Result Step BlockFault) → step_at h b at ≡ r → blocks_within (suc n) h b at ≡ Ok xs →
      ((next : ℕ) (ys : List Head) → blocks_within n h b next ≡ Ok ys → Ended n next ys) → Ended (suc n) at xs
  ended_step n at xs (Err fault) s e rest = let k = blocks_within-fault n at fault s in absurd (cc)
  ended_step n at xs (Ok End) s e rest =
      let k = blocks_within-end n at s in
      let none : [] ≡ xs = cc in
      subst (Ended (suc n) at) none (record { end = at; blocks_stand = refl; ends = s }, omega arith)
  ended_step n at xs (Ok (Block x)) s e rest =
      let w = with_block-ok x (blocks_within n h b (at + head_size h + x.len)) xs (sym (blocks_within-block n at x s) ∙ e) in
      let t = rest (at + head_size h + x.len) w.0 w.1 in
      subst (Ended (suc n) at) (sym w.2) (record { end = t.0.end; blocks_stand = (s, t.0.blocks_stand); ends = t.0.ends }, omega (arith, t.1))

  pub within_ended : (n at : ℕ) (xs : List Head) → blocks_within n h b at ≡ Ok xs → HasBlocksToEnd h b at xs × (length xs < n)
  within_ended zero at xs e = let k = blocks_within-zero at in absurd (cc)
  within_ended (suc n) at xs e = ended_step n at xs (step_at h b at) refl e (within_ended n)

  abbrev Failed : ℕ → ℕ → BlockFault → Type 0
  Failed n at fault = HasFault h b at n fault ⊎ (HasBlocks h b at n × (fault ≡ TooManyBlocks (most_blocks + 1)))

  one_more : (n at : ℕ) (x : Head) (fault : BlockFault) → step_at h b at ≡ Ok (Block x) → Failed n (at + head_size h + x.len) fault → Failed (suc n) at fault
  one_more n at x fault s (inl f) = inl (record { blocks = x ∷ f.blocks; end = f.end; blocks_stand = (s, f.blocks_stand); few = omega (arith, f.few); fails = f.fails })
  one_more n at x fault s (inr m) = inr (record { blocks = x ∷ m.0.blocks; end = m.0.end; blocks_stand = (s, m.0.blocks_stand); number = omega (arith, m.0.number) }, m.1)

  failed_step : (n at : ℕ) (fault : BlockFault) (r : Result Step BlockFault) → step_at h b at ≡ r → blocks_within (suc n) h b at ≡ Err fault →
      ((next : ℕ) → blocks_within n h b next ≡ Err fault → Failed n next fault) → Failed (suc n) at fault
  failed_step n at fault (Err other) s e rest =
      let k = blocks_within-fault n at other s in
      let same : other ≡ fault = cc in
      inl (record { blocks = []; end = at; blocks_stand = refl; few = omega arith; fails = s ∙ ap Err same })
  failed_step n at fault (Ok End) s e rest = let k = blocks_within-end n at s in absurd (cc)
  failed_step n at fault (Ok (Block x)) s e rest =
      one_more n at x fault s (rest (at + head_size h + x.len) (with_block-err x (blocks_within n h b (at + head_size h + x.len)) fault (sym (blocks_within-block n at x s) ∙ e)))

  pub within_failed : (n at : ℕ) (fault : BlockFault) → blocks_within n h b at ≡ Err fault → HasFault h b at n fault ⊎ (HasBlocks h b at n × (fault ≡ TooManyBlocks (most_blocks + 1)))
  within_failed zero at fault e =
      let k = blocks_within-zero at in
      inr (record { blocks = []; end = at; blocks_stand = refl; number = refl }, cc)
  within_failed (suc n) at fault e = failed_step n at fault (step_at h b at) refl e (λ next. within_failed n next fault)

-- ---- the blocks of a file

-- a reading with no more blocks than the limit is what is computed
pub blocks_of_reading : (b : List ℕ) (h : Header) (blocks : List Head) → Reads b h blocks → length blocks ≤ most_blocks → blocks_of h b ≡ Ok blocks
unfolding blocks_of
blocks_of_reading b h blocks r few = within_ends h b (most_blocks + 1) (header_size h) r.end blocks r.blocks_stand r.ends (omega arith)

-- the blocks that are computed stand behind the header, up to the end
pub blocks_of_stand : (b : List ℕ) (h : Header) (blocks : List Head) → blocks_of h b ≡ Ok blocks → HasBlocksToEnd h b (header_size h) blocks
unfolding blocks_of
blocks_of_stand b h blocks e = (within_ended h b (most_blocks + 1) (header_size h) blocks e).0

-- there are no more of them than the limit
pub blocks_of_few : (b : List ℕ) (h : Header) (blocks : List Head) → blocks_of h b ≡ Ok blocks → length blocks ≤ most_blocks
unfolding blocks_of
blocks_of_few b h blocks e = let few = (within_ended h b (most_blocks + 1) (header_size h) blocks e).1 in omega (arith, few)

-- with the header they are the file's reading
pub reading_of_blocks : (b : List ℕ) (h : Header) (blocks : List Head) → header_of b ≡ Ok h → blocks_of h b ≡ Ok blocks → Reads b h blocks
reading_of_blocks b h blocks header e =
    let s = blocks_of_stand b h blocks e in
    record { header = header; end = s.end; blocks_stand = s.blocks_stand; ends = s.ends }

-- the first failed check behind no more blocks than the limit is the fault that is computed
pub blocks_of_break : (b : List ℕ) (h : Header) (fault : BlockFault) (x : Breaks b h fault) → length x.blocks ≤ most_blocks → blocks_of h b ≡ Err fault
unfolding blocks_of
blocks_of_break b h fault x few = within_fails h b (most_blocks + 1) (header_size h) x.end x.blocks fault x.blocks_stand x.fails (omega arith)

-- one block more than the limit is too many
pub blocks_of_too_many : (b : List ℕ) (h : Header) → HasTooManyBlocks b h → blocks_of h b ≡ Err (TooManyBlocks (most_blocks + 1))
unfolding blocks_of
blocks_of_too_many b h x = within_full h b (most_blocks + 1) (header_size h) x.end x.blocks x.blocks_stand x.too_many

-- what a fault that is computed says of the file
pub blocks_of_cause : (b : List ℕ) (h : Header) (fault : BlockFault) → header_of b ≡ Ok h → blocks_of h b ≡ Err fault
    → HasBlockFault b h fault
unfolding blocks_of
blocks_of_cause b h fault header e = cause (within_failed h b (most_blocks + 1) (header_size h) fault e)
  where
    cause : HasFault h b (header_size h) (most_blocks + 1) fault ⊎ (HasBlocks h b (header_size h) (most_blocks + 1) × (fault ≡ TooManyBlocks (most_blocks + 1)))
        → HasBlockFault b h fault
    cause (inl f) = let few = f.few in inl (record { header = header; blocks = f.blocks; end = f.end; blocks_stand = f.blocks_stand; fails = f.fails }, omega (arith, few))
    cause (inr m) = inr (record { header = header; blocks = m.0.blocks; end = m.0.end; blocks_stand = m.0.blocks_stand; too_many = m.0.number }, m.1)

-- ---- what holds of each block

-- a block of a file: it stands behind the header, whole, with numbers that fit and a code that is meant
pub record IsBlockOf (h : Header) (b : List ℕ) (x : Head) : Type 0 where
  pub stands : step_at h b x.at ≡ Ok (Block x)
  pub behind : header_size h ≤ x.at
  pub fits : x.at + head_size h + x.len ≤ length b
  pub len : x.len < 2 ^ 31
  pub index : x.index < 2 ^ 31
  pub count : x.count < 2 ^ 31
  pub address : All (λ y. y < 256) b → x.address < 256 ^ pointer_bytes h.width
  pub code_len : length x.code ≡ 4
  pub code : code_meant x.code ≡ x.code
  pub no_end : bytes_eq x.code (codes "ENDB") ≡ false

-- what a step that finds a block says of it
pub record IsFoundAs (h : Header) (w : List ℕ) (at size : ℕ) (x : Head) : Type 0 where
  pub head : head_in h w at ≡ x
  pub no_end : bytes_eq (take 4 w) (codes "ENDB") ≡ false
  pub len : x.len < 2 ^ 31
  pub index : x.index < 2 ^ 31
  pub count : x.count < 2 ^ 31
  pub fits : x.at + head_size h + x.len ≤ size

checked_tests : (len index count past : Bool) (f g i j : BlockFault) (x y : Head)
    → ◌≡◌ {A = Result Step BlockFault} (if len then Err f else if index then Err g else if count then Err i else if past then Err j else Ok (Block x)) (Ok (Block y))
    → (len ≡ false) × (index ≡ false) × (count ≡ false) × (past ≡ false) × (x ≡ y)
checked_tests true index count past f g i j x y e = absurd (cc)
checked_tests false true count past f g i j x y e = absurd (cc)
checked_tests false false true past f g i j x y e = absurd (cc)
checked_tests false false false true f g i j x y e = absurd (cc)
checked_tests false false false false f g i j x y e = (refl, refl, refl, refl, cc)

step_tests : (four end head : Bool) (f g : BlockFault) (r : Result Step BlockFault) (x : Head)
    → ◌≡◌ {A = Result Step BlockFault} (if four then Err f else if end then Ok End else if head then Err g else r) (Ok (Block x))
    → (end ≡ false) × (r ≡ Ok (Block x))
step_tests true end head f g r x e = absurd (cc)
step_tests false true head f g r x e = absurd (cc)
step_tests false false true f g r x e = absurd (cc)
step_tests false false false f g r x e = (refl, e)

pub step_in-block : (h : Header) (w : List ℕ) (at size : ℕ) (x : Head) → step_in h w at size ≡ Ok (Block x) → IsFoundAs h w at size x
unfolding step_in
step_in-block h w at size x e =
    let y = head_in h w at in
    let s = step_tests (nat_lt size (at + 4)) (bytes_eq (take 4 w) (codes "ENDB")) (nat_lt size (at + head_size h)) _ _ (checked_head h y size) x e in
    let t = checked_tests (is_negative y.len) (is_negative y.index) (is_negative y.count) (nat_lt size (y.at + head_size h + y.len)) _ _ _ _ y x s.1 in
    let facts : IsFoundAs h w at size y = record {
      head = refl;
      no_end = s.0;
      len = leb-false (2 ^ 31) y.len t.0;
      index = leb-false (2 ^ 31) y.index t.1;
      count = leb-false (2 ^ 31) y.count t.2;
      fits = ltb-false size (y.at + head_size h + y.len) t.3;
    } in
    subst (IsFoundAs h w at size) t.4 facts

-- ---- the code

-- four bytes, of a list that has so many
pub four_bytes : (c : List ℕ) → length c ≡ 4 → (p : ℕ) × (q : ℕ) × (r : ℕ) × (s : ℕ) × (c ≡ p ∷ q ∷ r ∷ s ∷ [])
four_bytes [] e = absurd (omega arith)
four_bytes (p ∷ []) e = absurd (omega arith)
four_bytes (p ∷ q ∷ []) e = absurd (omega arith)
four_bytes (p ∷ q ∷ r ∷ []) e = absurd (omega arith)
four_bytes (p ∷ q ∷ r ∷ s ∷ []) e = (p, q, r, s, refl)
four_bytes (p ∷ q ∷ r ∷ s ∷ t ∷ ts) e = absurd (omega arith)

-- what four bytes mean is a code that means itself
IsMeant : List ℕ → Type 0
IsMeant c = (length c ≡ 4) × (code_meant c ≡ c) × (bytes_eq c (codes "ENDB") ≡ false)

never : (p q : Bool) → (p && (q && false)) ≡ false
never true true = refl
never true false = refl
never false q = refl

-- a code means itself, or is turned
meant_cases : (p q r s : ℕ) (x y z w : Bool) → (p == 0) ≡ x → (q == 0) ≡ y → (r == 0) ≡ z → (s == 0) ≡ w
    → (code_meant (p ∷ q ∷ r ∷ s ∷ []) ≡ p ∷ q ∷ r ∷ s ∷ []) ⊎ ((code_meant (p ∷ q ∷ r ∷ s ∷ []) ≡ r ∷ s ∷ 0 ∷ 0 ∷ []) × ((r == 0) ≡ false))
meant_cases p q r s false y z w ep eq er es = inl (rw ep refl)
meant_cases p q r s true false z w ep eq er es = inl (rw (ep, eq) refl)
meant_cases p q r s true true true w ep eq er es = inl (rw (ep, eq, er) refl)
meant_cases p q r s true true false true ep eq er es = inl (rw (ep, eq, er, es) refl)
meant_cases p q r s true true false false ep eq er es = inr (rw (ep, eq, er, es) refl, er)

meant_four : (p q r s : ℕ) → bytes_eq (p ∷ q ∷ r ∷ s ∷ []) (codes "ENDB") ≡ false → IsMeant (code_meant (p ∷ q ∷ r ∷ s ∷ []))
unfolding IsMeant
meant_four p q r s e = by (meant_cases p q r s (p == 0) (q == 0) (r == 0) (s == 0) refl refl refl refl)
  where
    turned : (r == 0) ≡ false → IsMeant (r ∷ s ∷ 0 ∷ 0 ∷ [])
    turned er = (refl, rw er refl, never (nat_eq r 69) (nat_eq s 78))

    by : (code_meant (p ∷ q ∷ r ∷ s ∷ []) ≡ p ∷ q ∷ r ∷ s ∷ []) ⊎ ((code_meant (p ∷ q ∷ r ∷ s ∷ []) ≡ r ∷ s ∷ 0 ∷ 0 ∷ []) × ((r == 0) ≡ false)) → IsMeant (code_meant (p ∷ q ∷ r ∷ s ∷ []))
    by (inl same) = subst IsMeant (sym same) (refl, same, e)
    by (inr other) = subst IsMeant (sym other.0) (turned other.1)

meant_code : (c : List ℕ) → length c ≡ 4 → bytes_eq c (codes "ENDB") ≡ false → IsMeant (code_meant c)
meant_code c len e =
    let f = four_bytes c len in
    let whole = f.4 in
    subst (λ (d : List ℕ). IsMeant (code_meant d)) (sym whole) (meant_four f.0 f.1 f.2 f.3 (subst (λ (d : List ℕ). bytes_eq d (codes "ENDB") ≡ false) whole e))

-- ---- the blocks of a file, one by one

module _ (h : Header) (b : List ℕ) where
  head_facts : (at : ℕ) (x : Head) → header_size h ≤ at → step_at h b at ≡ Ok (Block x) → head_in h (drop at b) at ≡ x → IsFoundAs h (drop at b) at (length b) x → IsBlockOf h b x
  unfolding head_in IsMeant
  head_facts at x behind s head found =
      let w : List ℕ = drop at b in
      let place : at ≡ x.at = ap (λ (y : Head). y.at) head in
      let width = pointer_bytes h.width in
      let fits = found.fits in
      let left : length w ≡ length b - at = length-drop at b in
      let four : length (take 4 w) ≡ 4 = length-take 4 w ∙ omega (arith, fits, left, place) in
      let code : code_meant (take 4 w) ≡ x.code = ap (λ (y : Head). y.code) head in
      let meant : IsMeant x.code = subst IsMeant code (meant_code (take 4 w) four found.no_end) in
      let address : number_at h.order w 8 width ≡ x.address = ap (λ (y : Head). y.address) head in
      record {
        stands = subst (λ (i : ℕ). step_at h b i ≡ Ok (Block x)) place s;
        behind = omega (arith, place, behind);
        fits = fits;
        len = found.len;
        index = found.index;
        count = found.count;
        address = λ all. subst (λ (v : ℕ). v < 256 ^ width) address (number_of-lt h.order width (drop 8 w) (All-drop (λ y. y < 256) 8 w (All-drop (λ y. y < 256) at b all)));
        code_len = meant.0;
        code = meant.1;
        no_end = meant.2;
      }

  pub block_facts : (at : ℕ) (x : Head) → header_size h ≤ at → step_at h b at ≡ Ok (Block x) → IsBlockOf h b x
  block_facts at x behind s =
      let found = step_in-block h (drop at b) at (length b) x s in
      head_facts at x behind s found.head found

  pub block_place : (at : ℕ) (x : Head) → step_at h b at ≡ Ok (Block x) → x.at ≡ at
  unfolding head_in
  block_place at x s = sym (ap (λ (y : Head). y.at) (step_in-block h (drop at b) at (length b) x s).head)

  -- where a block stands, the next place lies in the file
  pub block_inside : (at : ℕ) (x : Head) → step_at h b at ≡ Ok (Block x) → at + head_size h + x.len ≤ length b
  block_inside at x s = let fits = (step_in-block h (drop at b) at (length b) x s).fits in omega (arith, fits, block_place at x s)

  -- one block more
  pub AreBlocks-push : (at mid : ℕ) (xs : List Head) (x : Head) → AreBlocks h b at xs mid → step_at h b mid ≡ Ok (Block x) → AreBlocks h b at (xs ++ x ∷ []) (mid + head_size h + x.len)
  AreBlocks-push at mid [] x stand s = (subst (λ (i : ℕ). step_at h b i ≡ Ok (Block x)) (sym stand) s, ap (λ (i : ℕ). i + head_size h + x.len) stand)
  AreBlocks-push at mid (y ∷ xs) x stand s = (stand.0, AreBlocks-push (at + head_size h + y.len) mid xs x stand.1 s)

  each_of : (at end : ℕ) (xs : List Head) → header_size h ≤ at → AreBlocks h b at xs end → All (IsBlockOf h b) xs
  each_of at end [] behind stand = All-nil (IsBlockOf h b)
  each_of at end (x ∷ xs) behind stand =
      All-cons (IsBlockOf h b) x xs (block_facts at x behind stand.0) (each_of (at + head_size h + x.len) end xs (omega (arith, behind)) stand.1)

  -- each block takes a head's size at least
  pub AreBlocks-size : (at end : ℕ) (xs : List Head) → AreBlocks h b at xs end → at + length xs * head_size h ≤ end
  AreBlocks-size at end [] stand = omega (arith, stand)
  AreBlocks-size at end (x ∷ xs) stand =
      let rest = AreBlocks-size (at + head_size h + x.len) end xs stand.1 in
      let one : suc (length xs) * head_size h ≡ length xs * head_size h + head_size h = suc-mul (length xs) (head_size h) in
      omega (arith, rest, one)

pub blocks_of-each : (b : List ℕ) (h : Header) (blocks : List Head) → blocks_of h b ≡ Ok blocks → All (IsBlockOf h b) blocks
blocks_of-each b h blocks e = let s = blocks_of_stand b h blocks e in each_of h b (header_size h) s.end blocks (omega arith) s.blocks_stand

-- where the file ends, four bytes stand
pub end_inside : (h : Header) (b : List ℕ) (at : ℕ) → step_at h b at ≡ Ok End → at + 4 ≤ length b
unfolding step_in
end_inside h b at e = inside (nat_lt (length b) (at + 4)) refl e
  where
    inside : (four : Bool) → nat_lt (length b) (at + 4) ≡ four → step_at h b at ≡ Ok End → at + 4 ≤ length b
    inside false is s = ltb-false (length b) (at + 4) is
    inside true is s = let k = rw is at s in absurd (cc)

-- each block takes a head's size at least, and `ENDB` stands behind them
pub blocks_of-size : (b : List ℕ) (h : Header) (blocks : List Head) → blocks_of h b ≡ Ok blocks → header_size h + length blocks * head_size h + 4 ≤ length b
blocks_of-size b h blocks e =
    let s = blocks_of_stand b h blocks e in
    let size = AreBlocks-size h b (header_size h) s.end blocks s.blocks_stand in
    omega (arith, size, end_inside h b s.end s.ends)
