use Rattle.std.proofs.Common.{◌≡◌, refl, inr}
use Rattle.std.specs.Prelude.{codes}
use Rattle.wu_image.specs.Roots.{eight_bytes}
use Rattle.wu_image.proofs.roots.write_root.Goals as goal

pub returns : goal.returns
returns c =
    let root = c.args.root.now in
    let mark : c.copy_from_slice.new.self ≡ codes "WUMPUSR2" = cc in
    let checkpoint : c.copy_from_slice-2.new.self ≡ eight_bytes root.checkpoint = cc in
    let size : c.copy_from_slice-3.new.self ≡ eight_bytes root.size = cc in
    let address : c.copy_from_slice-4.new.self ≡ eight_bytes root.next_address = cc in
    let blob : c.copy_from_slice-5.new.self ≡ eight_bytes root.next_blob = cc in
    record {
      version = inr c.requires.version;
      some = c.requires.some;
      drawn = c.requires.drawn;
      size_fits = c.bytes_of-2.ensures.fits;
      address_fits = c.bytes_of-3.ensures.fits;
      blob_fits = c.bytes_of-4.ensures.fits;
      spelled = rw (mark, checkpoint, size, address, blob, c.requires.version) refl;
    }
