-- The views of elements and leaves, one after another.
use Rattle.std.proofs.Common.{◌≡◌, ◌<◌, ℕ, zero, suc, ◌+◌, ◌*◌, Bool, true, false, cond, List, [], ◌∷◌, ◌++◌, length, get_or, take, Option, Some, None, refl, sym, ap, ◌∙◌, arith, append_assoc, subst}
use Rattle.std.specs.Prelude.{flat_map}
use Rattle.std.specs.List.{enumerate_from}
use Rattle.std.proofs.lemmas.List.{append-nil, take_more, length-take-le}
use Rattle.std.proofs.lemmas.List.Elements.{All-nil, All-cons, All-append}
use Rattle.std.proofs.lemmas.Grind.{flat_map-append}
use Rattle.bl_num.specs.declared.number.Order.{Order}
use Rattle.bl_format.specs.declared.file.Head.{Head}
use Rattle.bl_format.specs.declared.file.Header.{Header}
use Rattle.bl_format.specs.declared.catalogue.Catalogue.{Catalogue}
use Rattle.bl_format.specs.declared.raw.RawKind.{RawKind}
use Rattle.bl_format.specs.declared.raw.View.{View}
use Rattle.bl_format.specs.Words.{numbers_below, part}
use Rattle.bl_format.specs.Blocks.{head_size}
use Rattle.bl_format.specs.Layout.{struct_length}
use Rattle.bl_format.specs.Graph.{Target, Naming}
use Rattle.bl_selection.specs.Selection.{no_head}
use Rattle.bl_file.specs.declared.speakers.Speaker.{Speaker}
use Rattle.bl_file.specs.declared.views.Sight.{Sight}
use Rattle.bl_file.specs.Seen.{Namings}
use Rattle.bl_file.specs.Speakers.{speaker_number}
use Rattle.bl_file.specs.Heard.{views_of_target}
use Rattle.bl_file.specs.Views.{is_raw, raw_target, element_views, speaker_views, speakers_views, element_at, element_said, elements_said, head_said, node_at_said, nodes_said, AreInside}
use Rattle.bl_file.proofs.GroupLemmas.{enumerate-push}
use Rattle.bl_file.proofs.ViewLaws.{flat_map-more}

-- what is put behind what was put behind some views
pub joined : (old some more items new : List View) → items ≡ old ++ some → new ≡ items ++ more → new ≡ old ++ (some ++ more)
joined old some more items new before is = is ∙ ap (λ vs. vs ++ more) before ∙ append_assoc old some more

-- one element more, which names this
pub element-more : (nodes : List Head) (names : Naming Target) (order : Order) (bytes : List ℕ) (x : Speaker)
    (k : ℕ) (target : Option ℕ) (old items new : List View)
    → target ≡ raw_target nodes (names (speaker_number order x bytes k)) → new ≡ items ++ views_of_target x.kind target
    → items ≡ old ++ element_views nodes names order bytes x k
    → new ≡ old ++ element_views nodes names order bytes x (k + 1)
element-more nodes names order bytes x k target old items new named is before =
    joined old (element_views nodes names order bytes x k) (views_of_target x.kind target) items new before is
    ∙ ap (λ t. old ++ (element_views nodes names order bytes x k ++ views_of_target x.kind t)) named
    ∙ ap (λ vs. old ++ vs)
    (sym (flat_map-more (λ j. views_of_target x.kind (raw_target nodes (names (speaker_number order x bytes j)))) k))

-- a list with one element more, of which a function gives lists
pub flat_map-take : {X Y : Type 0} (f : X → List Y) (xs : List X) (i : ℕ) (d : X) → i < length xs
    → flat_map f (take (i + 1) xs) ≡ flat_map f (take i xs) ++ f (get_or xs i d)
flat_map-take f xs i d lt =
    ap (flat_map f) (take_more xs i d lt) ∙ flat_map-append f (take i xs) (get_or xs i d ∷ [])
    ∙ ap (λ ys. flat_map f (take i xs) ++ ys) (append-nil (f (get_or xs i d)))

-- ---- nodes that are there

-- a raw node is there
pub raw_inside : (nodes : List Head) (n : ℕ) → is_raw nodes n ≡ true → n < length nodes
raw_inside [] n is = absurd (cc)
raw_inside (x ∷ xs) zero is = omega arith
raw_inside (x ∷ xs) (suc n) is = let lt : n < length xs = raw_inside xs n is in omega (arith, lt)

target_inside : (nodes : List Head) (kind : RawKind) (target : Target) → AreInside nodes (views_of_target kind (raw_target nodes target))
target_inside nodes kind None = All-nil (λ (v : View). v.node < length nodes)
target_inside nodes kind (Some n) = by (is_raw nodes n) refl
  where
    by : (b : Bool) → is_raw nodes n ≡ b → AreInside nodes (views_of_target kind (cond b (Some n) None))
    by true is = All-cons (λ (v : View). v.node < length nodes) (record { node = n; kind = kind }) [] (raw_inside nodes n is) (All-nil (λ (v : View). v.node < length nodes))
    by false is = All-nil (λ (v : View). v.node < length nodes)

flat_map_inside : {X : Type 0} (nodes : List Head) (f : X → List View) (xs : List X) → ((x : X) → AreInside nodes (f x))
    → AreInside nodes (flat_map f xs)
flat_map_inside nodes f [] all = All-nil (λ (v : View). v.node < length nodes)
flat_map_inside nodes f (x ∷ xs) all =
    All-append (λ (v : View). v.node < length nodes) (f x) (flat_map f xs) (all x) (flat_map_inside nodes f xs all)

-- the views of leaves are of nodes that are there, and so are all where they are put behind such
pub speakers_inside : (nodes : List Head) (names : Naming Target) (order : Order) (bytes : List ℕ) (speakers : List Speaker) (old new : List View)
    → AreInside nodes old → new ≡ old ++ speakers_views nodes names order bytes speakers → AreInside nodes new
speakers_inside nodes names order bytes speakers old new all is =
    subst (AreInside nodes) (sym is) (All-append (λ (v : View). v.node < length nodes) old (speakers_views nodes names order bytes speakers) all
    (flat_map_inside nodes (speaker_views nodes names order bytes) speakers
    (λ x. flat_map_inside nodes (λ k. views_of_target x.kind (raw_target nodes (names (speaker_number order x bytes k)))) (numbers_below x.count)
    (λ k. target_inside nodes x.kind (names (speaker_number order x bytes k))))))

-- the place of an element by the place of its node's payload
pub place_of_element : (h : Header) (c : Catalogue) (x : Head) (at e f len : ℕ)
    → at ≡ x.at + head_size h → f ≡ e → len ≡ struct_length c x.index → at + f * len ≡ element_at h c x e
place_of_element h c x at e f len is same long = rw (is, same, long) refl

-- one element of a node more
pub elements-more : (speakers : List Speaker) (nodes : List Head) (names : Naming Target) (h : Header) (c : Catalogue) (x : Head)
    (b : List ℕ) (e from len : ℕ) (old items new : List View)
    → from ≡ element_at h c x e → len ≡ struct_length c x.index
    → items ≡ old ++ elements_said speakers nodes names h c x b e
    → new ≡ items ++ speakers_views nodes names h.order (part b from len) speakers
    → new ≡ old ++ elements_said speakers nodes names h c x b (e + 1)
elements-more speakers nodes names h c x b e from len old items new stands long before is =
    joined old (elements_said speakers nodes names h c x b e) (speakers_views nodes names h.order (part b from len) speakers) items new before is
    ∙ ap (λ p. old ++ (elements_said speakers nodes names h c x b e ++ speakers_views nodes names h.order (part b p len) speakers)) stands
    ∙ ap (λ n. old ++ (elements_said speakers nodes names h c x b e ++ speakers_views nodes names h.order (part b (element_at h c x e) n) speakers)) long
    ∙ ap (λ vs. old ++ vs) (sym (flat_map-more (element_said speakers nodes names h c x b) e))

-- the views of one node more
pub nodes-more : (names : Namings) (s : Sight) (b : List ℕ) (k : ℕ) (old items new : List View) → k < length s.nodes.now
    → items ≡ old ++ nodes_said names s b k → new ≡ items ++ node_at_said names s b k → new ≡ old ++ nodes_said names s b (k + 1)
nodes-more names s b k old items new lt before is =
    let nodes : List Head = s.nodes.now in
    let long : 0 + length (take k nodes) ≡ k = omega (arith, length-take-le k nodes (omega (arith, lt))) in
    joined old (nodes_said names s b k) (node_at_said names s b k) items new before is
    ∙ ap (λ vs. old ++ vs)
    (sym (ap (λ ys. flat_map (λ (p : ℕ × Head). head_said names s b p.0 p.1) (enumerate_from 0 ys)) (take_more nodes k no_head lt)
    ∙ ap (flat_map (λ (p : ℕ × Head). head_said names s b p.0 p.1)) (enumerate-push 0 (take k nodes) (get_or nodes k no_head))
    ∙ flat_map-append (λ (p : ℕ × Head). head_said names s b p.0 p.1) (enumerate_from 0 (take k nodes)) ((0 + length (take k nodes), get_or nodes k no_head) ∷ [])
    ∙ ap (λ vs. nodes_said names s b k ++ vs) (append-nil (head_said names s b (0 + length (take k nodes)) (get_or nodes k no_head))
    ∙ ap (λ n. head_said names s b n (get_or nodes k no_head)) long)))
