-- Elements of structs, carried over one behind another and piece by piece.
use Rattle.std.proofs.Common.{◌≡◌, ℕ, zero, suc, ◌+◌, ◌-◌, ◌*◌, ◌≤◌, ◌<◌, false, List, [], ◌++◌, length, take, drop, refl, sym, ap, ◌∙◌, append_assoc, append-nil, arith, mul-le-mul_right}
use Rattle.std.specs.Prelude.{min, flat_map}
use Rattle.std.proofs.lemmas.List.{take_at, take_all, take-take, drop-take, drop-drop, length-append}
use Rattle.bl_num.specs.declared.number.Order.{Order}
use Rattle.bl_num.specs.declared.number.Order.TheVariants.{Little, Big}
use Rattle.bl_format.specs.Words.{part, numbers_below}
use Rattle.bl_format.specs.Graph.{Target, Naming}
use Rattle.bl_selection.specs.Carried.{StructForm}
use Rattle.bl_ptrarrays.specs.Carried.{is_other}
use Rattle.bl_plan.specs.Plans.{CopiesWhole}
use Rattle.bl_plan.specs.Steps.{applied}
use Rattle.bl_selection.proofs.NumberedTexts.{texts_more, texts-same}
use Rattle.bl_writer.specs.declared.elements.Elements.{Elements}
use Rattle.bl_writer.specs.Payloads.{StandIn, StayWhole, elements_carried, piece_at}

-- what numbers give, one number more
pub flat_map-next : (f : ℕ → List ℕ) (n : ℕ) → flat_map f (numbers_below (n + 1)) ≡ flat_map f (numbers_below n) ++ f n
flat_map-next f n = let next : n + 1 ≡ suc n = omega arith in ap (λ (k : ℕ). flat_map f (numbers_below k)) next ∙ texts_more f n

-- what numbers give below a sum
pub flat_map-sum : (f : ℕ → List ℕ) (n m : ℕ) → flat_map f (numbers_below (n + m)) ≡ flat_map f (numbers_below n) ++ flat_map (λ k. f (n + k)) (numbers_below m)
flat_map-sum f n zero = let none : n + 0 ≡ n = omega arith in ap (λ (k : ℕ). flat_map f (numbers_below k)) none ∙ sym (append-nil (flat_map f (numbers_below n)))
flat_map-sum f n (suc m) =
    let next : n + suc m ≡ suc (n + m) = omega arith in
    ap (λ (k : ℕ). flat_map f (numbers_below k)) next ∙ texts_more f (n + m)
    ∙ ap (λ (t : List ℕ). t ++ f (n + m)) (flat_map-sum f n m)
    ∙ append_assoc (flat_map f (numbers_below n)) (flat_map (λ k. f (n + k)) (numbers_below m)) (f (n + m))
    ∙ ap (λ (t : List ℕ). flat_map f (numbers_below n) ++ t) (sym (texts_more (λ k. f (n + k)) m))

-- the text that ends behind a part that was put behind another
pub part_put : (front own rest dst : List ℕ) (at len : ℕ) → length front ≡ at → front ≡ take at dst → length own ≡ len
    → take (at + len) (front ++ (own ++ rest)) ≡ take at dst ++ own
part_put front own rest dst at len long is own_long =
    ap (take (at + len)) (sym (append_assoc front own rest)) ∙ take_at (front ++ own) rest (at + len) (omega (arith, long, own_long, length-append front own))
    ∙ ap (λ (t : List ℕ). t ++ own) is

-- one part of some bytes that is replaced by as many leaves them as long
pub put_keeps_length : (front own rest part old dst : List ℕ) (at len : ℕ)
    → length front ≡ at → length part + at ≡ length dst → length old ≡ len → length rest + len ≡ length part → length own ≡ length old
    → length (front ++ (own ++ rest)) ≡ length dst
put_keeps_length front own rest part old dst at len first all cut behind same =
    omega (arith, first, all, cut, behind, same, length-append front (own ++ rest), length-append own rest)

-- a part of a part
pub part_within : (b : List ℕ) (at m k n : ℕ) → k + n ≤ m → part (part b at m) k n ≡ part b (at + k) n
part_within b at m k n le =
    let sum : k + (m - k) ≡ m = omega (arith, le) in
    ap (λ (j : ℕ). take n (drop k (take j (drop at b)))) (sym sum)
    ∙ ap (take n) (drop-take k (m - k) (drop at b))
    ∙ take-take n (m - k) (drop k (drop at b)) (omega (arith, le))
    ∙ ap (take n) (drop-drop k at b)

-- the part of a list from a place on
pub cut_is : (xs : List ℕ) (at len : ℕ) → at + len ≤ length xs → take len (take (length xs - at) (drop at xs)) ≡ part xs at len
cut_is xs at len le = take-take len (length xs - at) (drop at xs) (omega (arith, le))

-- an element stands within so many
pub element_within : (e n len : ℕ) → e < n → e * len + len ≤ n * len
element_within e n len lt =
    let sum : suc e * len ≡ e * len + len = omega arith in
    let le : suc e * len ≤ n * len = mul-le-mul_right len (omega (arith, lt)) in
    omega (arith, sum, le)

-- orders of which none is another are one
pub orders_same : (from to : Order) → is_other from to ≡ false → from ≡ to
orders_same Little Little is = refl
orders_same Little Big is = absurd (cc)
orders_same Big Little is = absurd (cc)
orders_same Big Big is = refl

module _ (names : Naming Target) (x : Elements) where
  -- element e of some, by the bytes of all
  abbrev own_carried : List ℕ → ℕ → List ℕ
  own_carried src e = applied x.plan.now names x.from x.to (part src (e * x.len) x.len) x.to_len

  -- up to an element all are carried over
  pub record AreCarried (src old : List ℕ) (e : ℕ) (dst : List ℕ) : Type 0 where
    pub long : length dst ≡ length old
    pub before : take (e * x.to_len) dst ≡ elements_carried names x e src

  pub carried_none : (src dst : List ℕ) → AreCarried src dst 0 dst
  carried_none src dst = record { long = refl; before = let none : 0 * x.to_len ≡ 0 = omega arith in ap (λ (n : ℕ). take n dst) none }

  -- one element more
  pub carried_more : (src old dst front rest own new tail : List ℕ) (e : ℕ)
      → length front ≡ e * x.to_len → front ≡ take (e * x.to_len) dst → length rest + e * x.to_len ≡ length dst
      → length own ≡ x.to_len → length tail + x.to_len ≡ length rest → length new ≡ length own → new ≡ own_carried src e
      → AreCarried src old e dst → AreCarried src old (e + 1) (front ++ (new ++ tail))
  carried_more src old dst front rest own new tail e front_long front_is rest_long own_long tail_long same carried are =
      let next : (e + 1) * x.to_len ≡ e * x.to_len + x.to_len = omega arith in
      record {
        long = put_keeps_length front new tail rest own dst (e * x.to_len) x.to_len front_long rest_long own_long tail_long same ∙ are.long;
        before = ap (λ (n : ℕ). take n (front ++ (new ++ tail))) next
            ∙ part_put front new tail dst (e * x.to_len) x.to_len front_long front_is (same ∙ own_long)
            ∙ (λ i. are.before i ++ carried i) ∙ sym (flat_map-next (own_carried src) e);
      }

  -- at the end all are
  pub carried_all : (src old dst : List ℕ) (e : ℕ) → e ≡ x.count → length old ≡ x.count * x.to_len → AreCarried src old e dst
      → dst ≡ elements_carried names x x.count src
  carried_all src old dst e is long are =
      let all : e * x.to_len ≡ x.count * x.to_len = ap (λ (n : ℕ). n * x.to_len) is in
      sym (take_all (e * x.to_len) dst (omega (arith, long, are.long, all))) ∙ are.before ∙ ap (λ (n : ℕ). elements_carried names x n src) is

-- ---- pieces

module _ (names : Naming Target) (x : Elements) where
  -- the elements of a piece, by the bytes of a file
  pub piece_is : (b : List ℕ) (done most n : ℕ) → n ≡ (piece_at x done most).count → done + n ≤ x.count
      → elements_carried names (piece_at x done most) n (part b (piece_at x done most).at (n * x.len))
      ≡ flat_map (λ e. own_carried names x (part b x.at (x.count * x.len)) (done + e)) (numbers_below n)
  piece_is b done most n is le =
      let src : List ℕ = part b x.at (x.count * x.len) in
      let piece : List ℕ = part b (x.at + done * x.len) (n * x.len) in
      texts-same (own_carried names x piece) (λ e. own_carried names x src (done + e)) n
      (λ e lt.
      let inside : e * x.len + x.len ≤ n * x.len = element_within e n x.len lt in
      let whole : (done + e) * x.len + x.len ≤ x.count * x.len = element_within (done + e) x.count x.len (omega (arith, lt, le)) in
      let sum : x.at + done * x.len + e * x.len ≡ x.at + (done + e) * x.len = omega arith in
      ap (λ (own : List ℕ). applied x.plan.now names x.from x.to own x.to_len)
      (part_within b (x.at + done * x.len) (n * x.len) (e * x.len) x.len inside
      ∙ ap (λ (at : ℕ). part b at x.len) sum
      ∙ sym (part_within b x.at (x.count * x.len) ((done + e) * x.len) x.len whole)))

  -- one piece more
  pub piece_more : (b old dst front rest own new tail : List ℕ) (done most n : ℕ) → n ≡ (piece_at x done most).count → done + n ≤ x.count
      → length front ≡ done * x.to_len → front ≡ take (done * x.to_len) dst → length rest + done * x.to_len ≡ length dst
      → length own ≡ n * x.to_len → length tail + n * x.to_len ≡ length rest → length new ≡ length own
      → new ≡ elements_carried names (piece_at x done most) n (part b (piece_at x done most).at (n * x.len))
      → AreCarried names x (part b x.at (x.count * x.len)) old done dst
      → AreCarried names x (part b x.at (x.count * x.len)) old (done + n) (front ++ (new ++ tail))
  piece_more b old dst front rest own new tail done most n is le front_long front_is rest_long own_long tail_long same carried are =
      let src : List ℕ = part b x.at (x.count * x.len) in
      let next : (done + n) * x.to_len ≡ done * x.to_len + n * x.to_len = omega arith in
      record {
        long = put_keeps_length front new tail rest own dst (done * x.to_len) (n * x.to_len) front_long rest_long own_long tail_long same ∙ are.long;
        before = ap (λ (m : ℕ). take m (front ++ (new ++ tail))) next
            ∙ part_put front new tail dst (done * x.to_len) (n * x.to_len) front_long front_is (same ∙ own_long)
            ∙ (λ i. are.before i ++ (carried ∙ piece_is b done most n is le) i) ∙ sym (flat_map-sum (own_carried names x src) done n);
      }

-- a piece of elements stands where they do
pub piece_stands : (x : Elements) (done most size : ℕ) → done ≤ x.count → StandIn x size → StandIn (piece_at x done most) size
piece_stands x done most size le is =
    let n : ℕ = min most (x.count - done) in
    let less : done * x.len + n * x.len ≤ x.count * x.len =
    (let sum : (done + n) * x.len ≡ done * x.len + n * x.len = omega arith in
    let more : (done + n) * x.len ≤ x.count * x.len = mul-le-mul_right x.len (omega (arith, le)) in omega (arith, sum, more)) in
    record {
      fits = is.fits;
      short = is.short;
      to_short = is.to_short;
      inside = let inside = is.inside in omega (arith, inside, less);
      small = is.small;
    }

-- it is no longer than so many elements
pub piece_long : (most left len : ℕ) → min most left * len ≤ most * len
piece_long most left len = let few : min most left ≤ most = omega arith in mul-le-mul_right len few

-- what a piece is written to stands in what all are written to
pub piece_room : (x : Elements) (done most : ℕ) → done ≤ x.count → (piece_at x done most).count * x.to_len + done * x.to_len ≤ x.count * x.to_len
piece_room x done most le =
    let n : ℕ = min most (x.count - done) in
    let sum : (n + done) * x.to_len ≡ n * x.to_len + done * x.to_len = omega arith in
    let more : (n + done) * x.to_len ≤ x.count * x.to_len = mul-le-mul_right x.to_len (omega (arith, le)) in
    omega (arith, sum, more)

-- elements without a byte turned, by a plan that copies them whole
pub whole_elements : (x : Elements) → is_other x.from x.to ≡ false
    → ((a b : StructForm) → a.order ≡ b.order → a.size ≡ x.len → b.size ≡ x.to_len → CopiesWhole a b x.plan.now) → StayWhole x
whole_elements x same copies =
    let a : StructForm = record { order = x.from; size = x.len; leaves = [] } in
    let b : StructForm = record { order = x.to; size = x.to_len; leaves = [] } in
    let is : CopiesWhole a b x.plan.now = copies a b (orders_same x.from x.to same) refl refl in
    record { len = sym is.size; stays = is.copies }
