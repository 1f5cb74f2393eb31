use Rattle.std.proofs.Common.{◌≡◌, ◌%◌, ◌/◌, List, ℕ, get_or, sym, ap, ◌∙◌}
use lib.Bits.{xor_assoc}
use Rattle.jb_crc.specs.Share.{share_of}
use Rattle.jb_crc.proofs.Remainders.{eight_shares}
use Rattle.jb_crc.proofs.remainder.after_block.Goals as goal

pub returns : goal.returns
returns c =
    let crc = c.args.crc in
    let block = c.args.block.now in
    let low_bytes = c.to_le_bytes.ensures in
    let first : c.share.result ≡ share_of 7 (crc % 256) (get_or block 0 0) =
    c.share.ensures ∙ ap (λ (l : List ℕ). share_of 7 (get_or l 0 0) (get_or block 0 0)) low_bytes in
    let second : c.share-2.result ≡ share_of 6 (crc / 256 % 256) (get_or block 1 0) =
    c.share-2.ensures ∙ ap (λ (l : List ℕ). share_of 6 (get_or l 1 0) (get_or block 1 0)) low_bytes in
    let third : c.share-3.result ≡ share_of 5 (crc / 65536 % 256) (get_or block 2 0) =
    c.share-3.ensures ∙ ap (λ (l : List ℕ). share_of 5 (get_or l 2 0) (get_or block 2 0)) low_bytes in
    let fourth : c.share-4.result ≡ share_of 4 (crc / 16777216 % 256) (get_or block 3 0) =
    c.share-4.ensures ∙ ap (λ (l : List ℕ). share_of 4 (get_or l 3 0) (get_or block 3 0)) low_bytes in
    rw (first, second, third, fourth, c.share-5.ensures, c.share-6.ensures, c.share-7.ensures, c.share-8.ensures)
    (simp xor_assoc (sym (eight_shares crc block c.ranges.crc.fits c.told-block)))
