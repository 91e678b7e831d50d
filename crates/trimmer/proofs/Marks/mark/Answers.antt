-- The cell is marked already, or there is room behind it for those that wait.
use Rattle.std.proofs.Common.{◌<◌, length, refl, ap, arith}
use Rattle.trimmer.proofs.Halves.{put_lower_length}
use Rattle.trimmer.proofs.Marking.{named_inside, marked_stays, free_inside, free_room, free_adds}
use Rattle.trimmer.proofs.Marks.mark.Goals as goal

pub is_marked-requires : goal.is_marked-requires
is_marked-requires c = named_inside _ _ _ _ _ c.requires.0 c.requires.1 c.requires.2 c.requires.3 _ c.named_or.ensures

pub returns-then-is_marked : goal.returns-then-is_marked
returns-then-is_marked c = record {
  same_work = refl;
  added = marked_stays _ _ _ _ _ c.requires.0 c.requires.1 c.requires.2 c.requires.3 _ c.named_or.ensures _ c.is_marked.ensures c.if-is_marked.true;
}

pub put_lower-requires : goal.put_lower-requires
put_lower-requires c = (free_inside _ _ _ _ _ c.requires.0 c.requires.1 c.requires.2 c.requires.3 _ c.named_or.ensures _ c.is_marked.ensures c.if-is_marked.false, omega arith)

pub put_upper-requires : goal.put_upper-requires
put_upper-requires c =
    let room : c.args.self.now.waiting < length c.args.self.now.work.now = free_room _ _ _ _ _ c.requires.0 c.requires.1 c.requires.2 c.requires.3 _ c.named_or.ensures _ c.is_marked.ensures c.if-is_marked.false in
    (omega (arith, ap length c.put_lower.ensures, put_lower_length c.args.self.now.work.now c.args.cell.0 1), c.requires.0.fits)

pub overflow_add-self : goal.overflow_add-self
overflow_add-self c =
    let room : c.args.self.now.waiting < length c.args.self.now.work.now = free_room _ _ _ _ _ c.requires.0 c.requires.1 c.requires.2 c.requires.3 _ c.named_or.ensures _ c.is_marked.ensures c.if-is_marked.false in
    omega (arith, c.requires.3)

pub returns : goal.returns
returns c = record {
  same_work = refl;
  added = free_adds _ _ _ _ _ c.requires.0 c.requires.1 c.requires.2 c.requires.3 _ c.named_or.ensures _ c.is_marked.ensures c.if-is_marked.false _ _ c.put_lower.ensures c.put_upper.ensures;
}
