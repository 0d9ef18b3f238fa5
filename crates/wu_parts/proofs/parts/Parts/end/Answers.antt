use Rattle.std.proofs.Common.{◌≡◌, ℕ, ◌+◌, ◌∷◌, [], List, Some, option_map, drop, refl, ap, sym, subst, ◌∙◌, append-nil, arith}
use Rattle.std.proofs.lemmas.Result.{err_from_is_err_and}
use Rattle.wu_parts.specs.Contents.{Contents}
use Rattle.wu_parts.specs.Flushing.{Told}
use Rattle.wu_parts.specs.StoredParts.{StoresPart, directories_of, records_of}
use Rattle.wu_parts.specs.Units.{replaced, with_made, without_taken}
use Rattle.wu_parts.specs.UnitsOfParts.{EndsJob, Replaces}
use Rattle.wu_parts.specs.ViewOfParts.{contents_of}
use Rattle.wu_parts.specs.declared.writing.StoredPart.{StoredPart}
use Rattle.wu_parts.proofs.EndedJobs.{insert_back, no_running, sound_ended, sound_partly, view_made, view_without, within}
use Rattle.wu_parts.proofs.UnitChains.{changes_partly}
use Rattle.wu_parts.proofs.parts.Parts.end.Goals as goal

pub invariant_of-self : goal.invariant_of-self
invariant_of-self g c =
    let i = c.self.inside in
    let none = no_running i.job (ap (λ (k : Contents). k.job) c.self.view_is ∙ c.requires.none) in
    let partly = c.in_err-take_out-in-None.ensures.some in
    sound_partly i.memory.low i.next_blob i.next_blob i.flushes c.args.place partly.0 i.parts.items c.take_out.new.parts.items i.job i.job
    c.self.invariant (omega arith) none partly.1

pub invariant_of-self-in-None : goal.invariant_of-self-in-None
invariant_of-self-in-None g c =
    let i = c.self.inside in
    let none = no_running i.job (ap (λ (k : Contents). k.job) c.self.view_is ∙ c.requires.none) in
    sound_partly i.memory.low i.next_blob i.next_blob i.flushes c.args.place c.args.count i.parts.items c.take_out.new.parts.items i.job
    i.job c.self.invariant (omega arith) none c.in_ok-take_out-in-None.ensures.parts

pub invariant_of-self-in_err-take_out-in-Some : goal.invariant_of-self-in_err-take_out-in-Some
invariant_of-self-in_err-take_out-in-Some g c =
    let i = c.self.inside in
    let none = no_running i.job (ap (λ (k : Contents). k.job) c.self.view_is ∙ c.requires.none) in
    let partly = c.in_err-take_out-in-Some.ensures.some in
    sound_partly i.memory.low i.next_blob (i.next_blob + 1) i.flushes c.args.place partly.0 i.parts.items
    c.take_out-in-Some.new.parts.items i.job i.job c.self.invariant (omega arith) none partly.1

pub invariant_of-self-in_err-insert-in-Some : goal.invariant_of-self-in_err-insert-in-Some
invariant_of-self-in_err-insert-in-Some g c =
    let i = c.self.inside in
    let none = no_running i.job (ap (λ (k : Contents). k.job) c.self.view_is ∙ c.requires.none) in
    sound_partly i.memory.low i.next_blob (i.next_blob + 1) i.flushes c.args.place c.args.count i.parts.items c.insert.new.self.items i.job
    i.job c.self.invariant (omega arith) none
    (c.in_err-insert-in-Some.ensures.items ∙ c.in_ok-take_out-in-Some.ensures.parts)

pub invariant_of-self-in-Some : goal.invariant_of-self-in-Some
invariant_of-self-in-Some g c =
    let i = c.self.inside in
    let parts : List StoredPart = i.parts.items in
    let part : StoredPart = c.in_ok-part-in-Some.part in
    let bytes : List ℕ = c.in-Some.bytes.items in
    let none = no_running i.job (ap (λ (k : Contents). k.job) c.self.view_is ∙ c.requires.none) in
    let before : Told = (g.D.Store.holds c.args.store.now, g.D.Store.moments c.args.store.now) in
    let after : Told = (g.D.Store.holds c.put_bytes.new.store, g.D.Store.moments c.put_bytes.new.store) in
    let ends : EndsJob (records_of parts) (directories_of parts) c.args.place c.args.count (Some bytes) =
    subst (λ o. EndsJob (records_of parts) (directories_of parts) c.args.place c.args.count (option_map (λ b. b.items) o)) c.in-Some.is
    (subst (λ (k : Contents). EndsJob k.parts k.directories c.args.place c.args.count (option_map (λ b. b.items) c.args.made))
    (sym c.self.view_is) c.requires.job) in
    let room = ends.number in
    let put : StoresPart bytes i.next_blob part.recorded part.directory before after =
    subst (λ (l : List ℕ). StoresPart l i.next_blob part.recorded part.directory before after) c.deref.ensures.value
    c.in_ok-part-in-Some.ensures.put in
    let placed : c.insert.new.self.items ≡ replaced c.args.place c.args.count (part ∷ []) parts =
    insert_back c.args.place parts (drop c.args.count (drop c.args.place parts)) c.take_out-in-Some.new.parts.items c.insert.new.self.items
    part (within c.args.place c.args.count parts room) c.in_ok-take_out-in-Some.ensures.parts c.in_ok-insert-in-Some.ensures.items in
    sound_ended i.memory.low i.next_blob i.flushes c.args.place c.args.count parts c.insert.new.self.items i.job i.job part bytes before
    after c.self.invariant none ends put placed

pub returns-in_ok-take_out-in-None-clause-done : goal.returns-in_ok-take_out-in-None-clause-done
returns-in_ok-take_out-in-None-clause-done g c =
    let i = c.self.inside in
    let none = no_running i.job (ap (λ (k : Contents). k.job) c.self.view_is ∙ c.requires.none) in
    let told : Told = (g.D.Store.holds c.args.store.now, g.D.Store.moments c.args.store.now) in
    let new : Contents = record (contents_of i) {
      parts = records_of c.take_out.new.parts.items;
      directories = directories_of c.take_out.new.parts.items;
      stale = c.take_out.new.stale.items;
    } in
    subst (λ o. Replaces c.args.place c.args.count (option_map (λ b. b.items) o) c.args.self.now new told told) (sym c.in-None.is) (
      view_without (contents_of i) c.args.place c.args.count i.parts.items i.stale.items i.job c.take_out.new.parts.items
          c.take_out.new.stale.items c.in_ok-take_out-in-None.ensures.parts c.in_ok-take_out-in-None.ensures.stale none
          ∙ ap (without_taken c.args.place c.args.count) c.self.view_is,
      refl,
    )

pub returns-in_ok-insert-in-Some-clause-done : goal.returns-in_ok-insert-in-Some-clause-done
returns-in_ok-insert-in-Some-clause-done g c =
    let i = c.self.inside in
    let parts : List StoredPart = i.parts.items in
    let part : StoredPart = c.in_ok-part-in-Some.part in
    let bytes : List ℕ = c.in-Some.bytes.items in
    let none = no_running i.job (ap (λ (k : Contents). k.job) c.self.view_is ∙ c.requires.none) in
    let before : Told = (g.D.Store.holds c.args.store.now, g.D.Store.moments c.args.store.now) in
    let after : Told = (g.D.Store.holds c.put_bytes.new.store, g.D.Store.moments c.put_bytes.new.store) in
    let room = subst (λ (k : Contents). EndsJob k.parts k.directories c.args.place c.args.count (option_map (λ b. b.items) c.args.made))
    (sym c.self.view_is) c.requires.job in
    let put : StoresPart bytes c.args.self.now.next_blob part.recorded part.directory before after =
    subst (λ n. StoresPart bytes n part.recorded part.directory before after) (ap (λ (k : Contents). k.next_blob) c.self.view_is)
    (subst (λ (l : List ℕ). StoresPart l i.next_blob part.recorded part.directory before after) c.deref.ensures.value
    c.in_ok-part-in-Some.ensures.put) in
    let placed : c.insert.new.self.items ≡ replaced c.args.place c.args.count (part ∷ []) parts =
    insert_back c.args.place parts (drop c.args.count (drop c.args.place parts)) c.take_out-in-Some.new.parts.items c.insert.new.self.items
    part (within c.args.place c.args.count parts room.number) c.in_ok-take_out-in-Some.ensures.parts c.in_ok-insert-in-Some.ensures.items in
    let new : Contents = record (contents_of i) {
      parts = records_of c.insert.new.self.items;
      directories = directories_of c.insert.new.self.items;
      next_blob = i.next_blob + 1;
      stale = c.take_out-in-Some.new.stale.items;
    } in
    subst (λ o. Replaces c.args.place c.args.count (option_map (λ b. b.items) o) c.args.self.now new before after) (sym c.in-Some.is)
    (record {
      recorded = part.recorded;
      directory = part.directory;
      put = put;
      contents =
          view_made (contents_of i) c.args.place c.args.count parts i.stale.items i.job part c.insert.new.self.items
          c.take_out-in-Some.new.stale.items placed c.in_ok-take_out-in-Some.ensures.stale none
          ∙ ap (with_made part.recorded part.directory c.args.place c.args.count) c.self.view_is;
    })

-- ---- what is changed where it fails

pub returns-in_err-take_out-in-None-clause-changes : goal.returns-in_err-take_out-in-None-clause-changes
returns-in_err-take_out-in-None-clause-changes g c =
    let p = err_from_is_err_and c.from_residual.result c.from_residual.ensures.1 in
    let noted = c.in_err-take_out-in-None.ensures.noted in
    rw p.1
    (changes_partly c.args.self.now (contents_of c.self.inside) _ noted.0 c.self.view_is refl noted.1 (omega arith) (omega arith))

pub returns-in_err-part-in-Some-clause-changes : goal.returns-in_err-part-in-Some-clause-changes
returns-in_err-part-in-Some-clause-changes g c =
    let p = err_from_is_err_and c.from_residual-in_err-part-in-Some.result c.from_residual-in_err-part-in-Some.ensures.1 in
    rw p.1
    (changes_partly c.args.self.now (contents_of c.self.inside) _ [] c.self.view_is refl (sym (append-nil c.self.inside.stale.items))
    (omega arith) (omega arith))

pub returns-in_err-take_out-in-Some-clause-changes : goal.returns-in_err-take_out-in-Some-clause-changes
returns-in_err-take_out-in-Some-clause-changes g c =
    let p = err_from_is_err_and c.from_residual-in_err-take_out-in-Some.result c.from_residual-in_err-take_out-in-Some.ensures.1 in
    let noted = c.in_err-take_out-in-Some.ensures.noted in
    rw p.1
    (changes_partly c.args.self.now (contents_of c.self.inside) _ noted.0 c.self.view_is refl noted.1 (omega arith) (omega arith))

pub returns-in_err-insert-in-Some-clause-changes : goal.returns-in_err-insert-in-Some-clause-changes
returns-in_err-insert-in-Some-clause-changes g c =
    let p = err_from_is_err_and c.from_residual-in_err-insert-in-Some.result c.from_residual-in_err-insert-in-Some.ensures.1 in
    rw p.1
    (changes_partly c.args.self.now (contents_of c.self.inside) _ _ c.self.view_is refl c.in_ok-take_out-in-Some.ensures.stale
    (omega arith) (omega arith))
