-- `report::filling::put_next`: the site's label is lent, and the site is written after those before it. Assumes nothing.
use mathlib.Core.Path.{◌≡◌, refl}
use Prim.Native.Nat.{◌+◌, ◌-◌, ◌*◌}
use native.Mathlib.Omega.{arith}
use lib.ListN.{length, take, drop, length-drop}
use lib.Seq.{length-take-le}
use Rattle.report.proofs.Parts.{lent_size, next_put}
use Rattle.report.proofs.filling.put_next.Goals as goal

pub put_site-requires : goal.put_site-requires
put_site-requires c =
    let x = c.requires in
    let at = c.args.from + 13 * c.args.place in
    let out = c.args.out.now in
    let room : length (take (length out - at) (drop at out)) ≡ length out - at =
    length-take-le (length out - at) (drop at out) (omega (arith, length-drop at out))
    in
    omega (arith, lent_size x, room, x.room)

pub returns : goal.returns
returns c =
    let out = c.args.out.now in
    record {
      end_is = refl;
      put =
          next_put c.requires (length out - (c.args.from + 13 * c.args.place)) c.put_site.new.out refl
          c.put_site.ensures;
    }
