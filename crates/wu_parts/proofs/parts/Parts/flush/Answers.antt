use Rattle.std.proofs.Common.{◌≡◌, ℕ, ◌+◌, ◌^◌, ◌<◌, List, [], ◌∷◌, ◌++◌, length, map, refl, ap, sym, subst, ◌∙◌, arith, rules}
use Rattle.wu_base.specs.declared.addresses.PartRec.{PartRec}
use Rattle.wu_base.specs.declared.addresses.Range.{Range}
use Rattle.wu_layout.specs.Postings.{Posting, is_live, live_of}
use Rattle.wu_layout.proofs.PostingLemmas.{Ascend-bounds, Ascend-filter}
use Rattle.wu_part.specs.Directories.{PartDirectory}
use Rattle.wu_parts.specs.Contents.{Contents, with_part, without_postings}
use Rattle.wu_parts.specs.Flushing.{Told}
use Rattle.wu_parts.specs.Memory.{HasPostings, Memory}
use Rattle.wu_parts.specs.StoredParts.{AreSound, AreStored, IsPut, directories_of, records_of}
use Rattle.wu_parts.specs.ViewOfParts.{contents_of}
use Rattle.wu_parts.specs.declared.writing.StoredPart.{StoredPart}
use Rattle.wu_parts.proofs.Flushes.{flushes-none, flushes-part, none_made, none_of_length, stored_after}
use Rattle.wu_parts.proofs.SoundParts.{sound_pushed}
use Rattle.wu_parts.proofs.Spans.{directories-push, records-push, stored-raised}
use Rattle.wu_parts.proofs.parts.Parts.flush.Goals as goal

pub invariant_of-self : goal.invariant_of-self
invariant_of-self g c =
    let memory : Memory = c.self.inside.memory in
    let has = c.in_ok-lists.ensures.has in
    let inv = c.self.invariant in
    subst (λ (m : Memory). AreSound m.low c.self.inside.next_blob c.self.inside.flushes c.self.inside.parts.items c.self.inside.job)
    (sym c.clear.ensures)
    (record {
      stored =
          stored-raised memory.low memory.end c.self.inside.parts.items (Ascend-bounds memory.low memory.end has.0 has.1.ascend) inv.stored;
      below = inv.below;
      never_rise = inv.never_rise;
      flushed = inv.flushed;
      few = inv.few;
      job = inv.job;
    })

pub returns-then-is_empty-clause-flushed : goal.returns-then-is_empty-clause-flushed
returns-then-is_empty-clause-flushed g c low high postings h =
    let few : length c.in_ok-lists.lists.lists ≡ 0 = search rules in
    flushes-none c.args.self.now _ _ _ (live_of (map (λ file. file.1) c.args.space.now.ranges) postings) c.in_ok-lists.lists.lists
    (c.in_ok-lists.ensures.lists low high postings
    (subst (λ (k : Contents). HasPostings low high k.memory postings) (sym c.self.view_is) h))
    (none_of_length c.in_ok-lists.lists.lists few)
    (ap (λ (m : Memory). record (contents_of c.self.inside) { memory = m }) c.clear.ensures
    ∙ ap without_postings c.self.view_is)
    refl

pub invariant_of-self-2 : goal.invariant_of-self-2
invariant_of-self-2 g c =
    let memory : Memory = c.self.inside.memory in
    let parts : List StoredPart = c.self.inside.parts.items in
    let ranges : List Range = map (λ file. file.1) c.args.space.now.ranges in
    let has = c.in_ok-lists.ensures.has in
    let before : Told = (g.D.Store.holds c.args.store.now, g.D.Store.moments c.args.store.now) in
    let after : Told = (g.D.Store.holds c.put_part.new.store, g.D.Store.moments c.put_part.new.store) in
    let some : 0 < length c.in_ok-lists.lists.lists = search rules in
    let pushed : c.push.new.self.items ≡ parts ++ c.in_ok-part.part ∷ [] =
    c.in_ok-push.ensures.items ∙ ap (λ (l : List StoredPart). l ++ c.in_ok-part.part ∷ []) c.in_ok-reserve.ensures.items in
    let put : IsPut c.in_ok-lists.lists.lists c.self.inside.next_blob c.in_ok-part.part.recorded c.in_ok-part.part.directory before after =
    c.in_ok-part.ensures.put in
    let more : AreStored memory.end (parts ++ c.in_ok-part.part ∷ []) =
    stored_after memory.low memory.end c.self.inside.next_blob parts c.in_ok-part.part (live_of ranges has.0) c.in_ok-lists.lists.lists
    before after
    c.self.invariant.stored (Ascend-filter (λ (p : Posting). is_live ranges p.address) memory.low memory.end has.0 has.1.ascend)
    (c.in_ok-lists.ensures.lists memory.low memory.end has.0 has.1) some put in
    let room : c.self.inside.flushes + 1 < 2 ^ 63 = omega (arith, ap (λ (k : Contents). k.flushes) c.self.view_is, c.requires.flushes) in
    let sound : AreSound memory.end (c.self.inside.next_blob + 1) (c.self.inside.flushes + 1) (parts ++ c.in_ok-part.part ∷ [])
    c.self.inside.job =
    sound_pushed memory.low memory.end c.self.inside.next_blob c.self.inside.flushes parts c.in_ok-part.part c.self.inside.job
    c.self.invariant more put.blob_of (sym put.told.generation ∙ put.new) room in
    subst
    (λ (m : Memory). AreSound m.low (c.self.inside.next_blob + 1) (c.self.inside.flushes + 1) c.push.new.self.items c.self.inside.job)
    (sym c.clear-2.ensures)
    (subst (λ ps. AreSound memory.end (c.self.inside.next_blob + 1) (c.self.inside.flushes + 1) ps c.self.inside.job) (sym pushed) sound)

pub returns-clause-flushed : goal.returns-clause-flushed
returns-clause-flushed g c low high postings h =
    let parts : List StoredPart = c.self.inside.parts.items in
    let part : StoredPart = c.in_ok-part.part in
    let ranges : List Range = map (λ file. file.1) c.args.space.now.ranges in
    let before : Told = (g.D.Store.holds c.args.store.now, g.D.Store.moments c.args.store.now) in
    let after : Told = (g.D.Store.holds c.put_part.new.store, g.D.Store.moments c.put_part.new.store) in
    let some : 0 < length c.in_ok-lists.lists.lists = search rules in
    let pushed : c.push.new.self.items ≡ parts ++ part ∷ [] =
    c.in_ok-push.ensures.items ∙ ap (λ (l : List StoredPart). l ++ part ∷ []) c.in_ok-reserve.ensures.items in
    let make : List PartRec → List PartDirectory → Memory → Contents = λ ps ds m.
    record (contents_of c.self.inside) {
      memory = m;
      parts = ps;
      directories = ds;
      next_blob = c.self.inside.next_blob + 1;
      flushes = c.self.inside.flushes + 1;
    } in
    let changes : make (records_of c.push.new.self.items) (directories_of c.push.new.self.items) c.clear-2.new.self
    ≡ with_part part.recorded part.directory c.args.self.now =
    ap (λ (ps : List PartRec). make ps (directories_of c.push.new.self.items) c.clear-2.new.self)
    (ap records_of pushed ∙ records-push parts part)
    ∙ ap (λ (ds : List PartDirectory). make (records_of parts ++ part.recorded ∷ []) ds c.clear-2.new.self)
    (ap directories_of pushed ∙ directories-push parts part)
    ∙ ap (make (records_of parts ++ part.recorded ∷ []) (directories_of parts ++ part.directory ∷ [])) c.clear-2.ensures
    ∙ ap (with_part part.recorded part.directory) c.self.view_is in
    let put : IsPut c.in_ok-lists.lists.lists c.args.self.now.next_blob part.recorded part.directory before after =
    subst (λ (n : ℕ). IsPut c.in_ok-lists.lists.lists n part.recorded part.directory before after)
    (ap (λ (k : Contents). k.next_blob) c.self.view_is)
    c.in_ok-part.ensures.put in
    flushes-part c.args.self.now _ before after low high (live_of ranges postings) c.in_ok-lists.lists.lists part.recorded part.directory
    (Ascend-filter (λ (p : Posting). is_live ranges p.address) low high postings h.ascend)
    (c.in_ok-lists.ensures.lists low high postings
    (subst (λ (k : Contents). HasPostings low high k.memory postings) (sym c.self.view_is) h))
    some put changes

pub returns-in_err-part-clause-undrawn : goal.returns-in_err-part-clause-undrawn
returns-in_err-part-clause-undrawn g c low high postings h none =
    let some : 0 < length c.in_ok-lists.lists.lists = search rules in
    absurd
    (none_made c.args.self.now (contents_of c.self.inside) (map (λ file. file.1) c.args.space.now.ranges) c.in_ok-lists.lists.lists
    c.self.view_is some c.in_ok-lists.ensures.lists low high postings h none)

pub returns-in_err-push-clause-undrawn : goal.returns-in_err-push-clause-undrawn
returns-in_err-push-clause-undrawn g c low high postings h none =
    let some : 0 < length c.in_ok-lists.lists.lists = search rules in
    absurd
    (none_made c.args.self.now (contents_of c.self.inside) (map (λ file. file.1) c.args.space.now.ranges) c.in_ok-lists.lists.lists
    c.self.view_is some c.in_ok-lists.ensures.lists low high postings h none)

pub returns-clause-undrawn : goal.returns-clause-undrawn
returns-clause-undrawn g c low high postings h none =
    let some : 0 < length c.in_ok-lists.lists.lists = search rules in
    absurd
    (none_made c.args.self.now (contents_of c.self.inside) (map (λ file. file.1) c.args.space.now.ranges) c.in_ok-lists.lists.lists
    c.self.view_is some c.in_ok-lists.ensures.lists low high postings h none)

-- there was room for one part more
pub returns-in_err-push-clause-memory : goal.returns-in_err-push-clause-memory
returns-in_err-push-clause-memory g c = absurd (omega (arith, c.in_ok-reserve.ensures.ok, c.in_err-push.ensures.full))
