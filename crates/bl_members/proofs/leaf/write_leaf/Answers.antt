use Rattle.std.proofs.Common.{◌≡◌, ℕ, List, ◌+◌, ◌≤◌, length, arith}
use Rattle.std.proofs.lemmas.Grind.{common_steps}
use Rattle.bl_num.specs.Numbers.{bytes_of}
use Rattle.bl_num.proofs.BytesOf.{length-bytes_of}
use Rattle.bl_format.specs.Words.{part}
use Rattle.bl_members.specs.Leaf.{element_place, replaced_at, AreDisjoint}
use Rattle.bl_members.proofs.Replaced.{element_inside, elements-disjoint, part-replaced_at}
use Rattle.bl_members.proofs.leaf.write_leaf.Goals as goal

apart_stays : (at size : ℕ) (new xs ys : List ℕ)
    → ys ≡ replaced_at at new xs → length new ≡ size → at + size ≤ length xs
    → (from n : ℕ) → AreDisjoint from n at size → part ys from n ≡ part xs from n
apart_stays at size new xs ys is len room from n apart =
    rw is (part-replaced_at at new xs from n (rw len room) (rw len apart))

pub returns-clause-written : goal.returns-clause-written
returns-clause-written c = grind (arith, common_steps)

pub returns-clause-elsewhere : goal.returns-clause-elsewhere
returns-clause-elsewhere c =
    let x = c.args.leaf.now in
    let k = c.args.element in
    let old = c.args.dst.now in
    let order = c.args.order in
    let v = c.args.value in
    apart_stays (element_place x k) x.size (bytes_of order x.size v) old _ (returns-clause-written c)
    (length-bytes_of order x.size v) (element_inside x k (length old) c.requires.fits c.requires.element)

pub returns-clause-others : goal.returns-clause-others
returns-clause-others c k below differ =
    let x = c.args.leaf.now in
    returns-clause-elsewhere c (element_place x k) x.size (elements-disjoint x k c.args.element differ)
