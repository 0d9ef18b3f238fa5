-- The blocks of a term, gone through beside the frames.
use Rattle.std.proofs.Common.{◌≡◌, ℕ, ◌+◌, ◌-◌, ◌^◌, ◌<◌, ◌≤◌, Bool, cond, List, [], ◌∷◌, ◌++◌, filter, length, take, drop, min, refl}
use Rattle.std.proofs.Common.{ap, ap₂, sym, ◌∙◌, subst, arith, append-nil, append_assoc}
use Rattle.std.specs.Prelude.{Option, None, Some, IfSome}
use Rattle.std.specs.List.{AllByRecursion}
use Rattle.std.proofs.lemmas.List.{length-drop, length-take, take-append-drop}
use Rattle.std.proofs.lemmas.List.Elements.{filter-append}
use Rattle.wu_base.specs.declared.addresses.Range.{Range}
use Rattle.wu_base.specs.declared.limits.TheConstants.{ADDRESSES_MAX}
use Rattle.wu_base.proofs.EachLemmas.{each_right}
use Rattle.wu_layout.specs.Postings.{is_live}
use Rattle.wu_layout.proofs.EntryLemmas.{IfSome-map}
use Rattle.wu_outside.specs.Content.{Content}
use Rattle.wu_outside.specs.declared.ranges.ReadRange.{ReadRange}
use Rattle.wu_vbyte.specs.declared.blocks.TheConstants.{BLOCK_LEN}
use Rattle.wu_vbyte.specs.Blocks.{AreFromTo}
use Rattle.wu_part.specs.declared.entries.BlockEntry.{BlockEntry}
use Rattle.wu_part.specs.declared.entries.TermEntry.{TermEntry}
use Rattle.wu_part.specs.Directories.{AreBlocks, IsBlock}
use Rattle.wu_part.specs.Parts.{HoldBlocks, HoldsBlock}
use Rattle.wu_lists.specs.declared.blocks.Block.{Block}
use Rattle.wu_lists.specs.Ascending.{AreInOrder}
use Rattle.wu_lists.specs.Blocks.{IsSpelling, IsSpelledIn, blocks_from, bytes_of, meets}
use Rattle.wu_lists.specs.Fetching.{AreGathered, HasBlock, HasBlocks}
use Rattle.wu_lists.specs.Gaining.{Gains, LiveAlike, OpenAlike, filter-alike}
use Rattle.wu_lists.specs.Keeping.{AreHeld, Asks, Kept}
use Rattle.wu_lists.specs.Walking.{IsFound, IsRest, IsWalked}
use Rattle.wu_lists.proofs.Ascending.{all_from, ascend-higher, ascend-join}
use Rattle.wu_lists.proofs.Asking.{asks-join, asks-none}
use Rattle.wu_lists.proofs.Spans.{spelled_ascend}

-- ---- what was gained

module _ {X : Type 0} (Gain : List ℕ → X → X → Type 0) where
  pub gains-none : (Kind : List ℕ → Type 0) (before : X) → Gain [] before before → Kind [] → Gains Gain Kind before before
  gains-none Kind before none k = record { more = []; gained = none; kind = k }

  pub gains-step : (Kind Other : List ℕ → Type 0) (before after : X) → ((more : List ℕ) → Kind more → Other more)
      → Gains Gain Kind before after → Gains Gain Other before after
  gains-step Kind Other before after step g = record { more = g.more; gained = g.gained; kind = step g.more g.kind }

  gains-join : (First Next Both : List ℕ → Type 0) (before middle after : X)
      → ((xs ys : List ℕ) (a b c : X) → Gain xs a b → Gain ys b c → Gain (xs ++ ys) a c)
      → ((xs ys : List ℕ) → First xs → Next ys → Both (xs ++ ys)) → Gains Gain First before middle → Gains Gain Next middle after
      → Gains Gain Both before after
  gains-join First Next Both before middle after joins both g h = record {
    more = g.more ++ h.more;
    gained = joins g.more h.more before middle after g.gained h.gained;
    kind = both g.more h.more g.kind h.kind;
  }

-- ---- the block of an entry

abbrev pub block_with : ℕ → ℕ → ℕ → BlockEntry → Block
block_with blob low count entry =
    record { blob = blob; low = low; count = count; first = entry.first; last = entry.last; at = entry.at; len = entry.len }

-- what a blob holds of an entry is the spelling of the block
pub spelled-block : (blob low count : ℕ) (entry : BlockEntry) (bytes addresses : List ℕ) → count ≡ length addresses
    → HoldsBlock low bytes entry addresses
    → IsSpelling (block_with blob low count entry) addresses (bytes_of (block_with blob low count entry) bytes)
spelled-block blob low count entry bytes addresses n h = record {
  spelled = h.spelled;
  span = subst (λ (k : ℕ). AreFromTo k entry.first entry.last addresses) (sym n) h.span;
}

-- ---- none yet

module _ (X : Type 0) (Gain : List ℕ → X → X → Type 0) (AreWanted : Type 0) (frames : List Range) (blob low high : ℕ) (all : TermEntry)
    (holds : Option Content) (old : Kept) (ranges : Option (List ReadRange)) (before : X) where
  pub walked-none : Gain [] before before → AreBlocks low high all.count all.blocks → low ≤ high → AreInOrder 0 (2 ^ 64 - 1) frames
      → IsWalked Gain AreWanted frames frames blob low high all all holds old old ranges ranges before before
  walked-none none blocks span order = record {
    from = low;
    above = omega arith;
    within = omega arith;
    blocks = blocks;
    order = order;
    live = λ address l. refl;
    needed = λ block l. refl;
    opened = λ after address l. refl;
    gone = [];
    split = refl;
    asks = asks-none holds old ranges;
    found_of = λ wanted. gains-none Gain (IsFound frames blob low low all all holds old) before none
        (record { ascend = omega arith; told = all-rest holds });
  }
    where
      all-rest : (holds : Option Content) → IfSome holds (λ content. (bytes addresses : List ℕ) → content.blobs blob ≡ Some bytes
          → AreHeld blob bytes old → HasBlocks low all.count all.blocks bytes addresses → IsRest frames low all bytes addresses [])
      all-rest None = tt
      all-rest (Some content) = λ bytes addresses there held has. record { later = addresses; has = has; made = refl }

  -- ---- all of them

  module _ (left : List Range) (rest : TermEntry) (now : Kept) (ranges_now : Option (List ReadRange)) (found : X)
      (w : IsWalked Gain AreWanted frames left blob low high all rest holds old now ranges ranges_now before found) where
    pub walked-asks : rest.blocks ≡ []
        → Asks (filter (meets frames) (blocks_from blob low all.count all.blocks)) holds old now ranges ranges_now
    walked-asks none =
        let whole : w.gone ≡ blocks_from blob low all.count all.blocks =
        sym (append-nil w.gone)
        ∙ ap (λ (bs : List BlockEntry). w.gone ++ blocks_from blob low rest.count bs) (sym none) ∙ w.split in
        subst (λ (bs : List Block). Asks (filter (meets frames) bs) holds old now ranges ranges_now) whole w.asks

    pub walked-found : AreWanted → rest.blocks ≡ []
        → Gains Gain (AreGathered (HasBlocks low all.count all.blocks) frames blob low (high + 1) holds old) before found
    walked-found wanted none =
        gains-step Gain (IsFound frames blob low w.from all rest holds old)
        (AreGathered (HasBlocks low all.count all.blocks) frames blob low (high + 1) holds old) before found
        (λ more f. record {
          ascend = ascend-higher low w.from (high + 1) more w.within f.ascend;
          told = all-found more holds f.told;
        })
        (w.found_of wanted)
      where
        none-later : (blocks : List BlockEntry) (bytes later : List ℕ) → blocks ≡ [] → HoldBlocks low bytes blocks later → later ≡ []
        none-later blocks bytes later e h = subst (λ (bs : List BlockEntry). HoldBlocks low bytes bs later) e h

        all-found : (more : List ℕ) (holds : Option Content)
            → IfSome holds (λ content. (bytes addresses : List ℕ) → content.blobs blob ≡ Some bytes → AreHeld blob bytes old
            → HasBlocks low all.count all.blocks bytes addresses → IsRest frames low rest bytes addresses more)
            → IfSome holds (λ content. (bytes addresses : List ℕ) → content.blobs blob ≡ Some bytes → AreHeld blob bytes old
            → HasBlocks low all.count all.blocks bytes addresses → filter (is_live frames) more ≡ filter (is_live frames) addresses)
        all-found more None t = tt
        all-found more (Some content) t = λ bytes addresses there held has.
            let r = t bytes addresses there held has in
            let none_later : r.later ≡ [] = none-later rest.blocks bytes r.later none r.has.held in
            sym (append-nil (filter (is_live frames) more))
            ∙ ap (λ (l : List ℕ). filter (is_live frames) more ++ filter (is_live frames) l) (sym none_later) ∙ r.made

    -- ---- one more

    module _ (entry : BlockEntry) (next : TermEntry) (count : ℕ) (split : rest.blocks ≡ entry ∷ next.blocks)
        (counted : count ≡ min rest.count BLOCK_LEN) (fewer : next.count ≡ rest.count - BLOCK_LEN) where
      abbrev pub block : Block
      block = block_with blob low count entry

      abbrev AreNext : Type 0
      AreNext = (0 < rest.count) × IsBlock w.from high (min rest.count BLOCK_LEN) entry
          × AreBlocks (entry.last + 1) high (rest.count - BLOCK_LEN) next.blocks

      next-blocks : AreNext
      next-blocks = subst (λ (bs : List BlockEntry). AreBlocks w.from high rest.count bs) split w.blocks

      pub block-bounded : high < ADDRESSES_MAX → entry.last < ADDRESSES_MAX
      block-bounded h = omega (arith, next-blocks.1.end)

      itself : entry.first ≤ entry.first
      itself = omega arith

      ends-later : entry.first ≤ entry.last
      ends-later =
          let some = next-blocks.0 in
          let room = next-blocks.1.room in
          omega arith

      rest-split : blocks_from blob low rest.count rest.blocks ≡ block ∷ blocks_from blob low next.count next.blocks
      rest-split =
          ap (λ (bs : List BlockEntry). blocks_from blob low rest.count bs) split
          ∙ ap₂ (λ (n m : ℕ). block_with blob low n entry ∷ blocks_from blob low m next.blocks) (sym counted) (sym fewer)

      all-split : (w.gone ++ block ∷ []) ++ blocks_from blob low next.count next.blocks ≡ blocks_from blob low all.count all.blocks
      all-split =
          append_assoc w.gone (block ∷ []) (blocks_from blob low next.count next.blocks)
          ∙ ap (λ (bs : List Block). w.gone ++ bs) (sym rest-split) ∙ w.split

      -- the block is one of all
      pub block-spelled : (content : Content) → AllByRecursion (IsSpelledIn content) (blocks_from blob low all.count all.blocks)
          → IsSpelledIn content block
      block-spelled content a =
          let later : AllByRecursion (IsSpelledIn content) (block ∷ blocks_from blob low next.count next.blocks) =
          each_right (IsSpelledIn content) w.gone (block ∷ blocks_from blob low next.count next.blocks)
          (subst (AllByRecursion (IsSpelledIn content))
          (sym (ap (λ (bs : List Block). w.gone ++ bs) (sym rest-split) ∙ w.split)) a) in
          later.0

      -- where it is broken, not all are as the directory tells
      pub block-broken : IfSome holds (λ content. IsSpelledIn content block → ⊥)
          → IfSome holds (λ content. AllByRecursion (IsSpelledIn content) (blocks_from blob low all.count all.blocks) → ⊥)
      block-broken broken =
          IfSome-map (λ content. IsSpelledIn content block → ⊥)
          (λ content. AllByRecursion (IsSpelledIn content) (blocks_from blob low all.count all.blocks) → ⊥) holds
          (λ content none a. none (block-spelled content a)) broken

      module _ (nearer : List Range) (order : AreInOrder 0 (2 ^ 64 - 1) nearer)
          (live : LiveAlike entry.first nearer left)
          (needed : (other : Block) → entry.first ≤ other.first → meets nearer other ≡ meets left other)
          (opened : OpenAlike entry.first nearer left) where
        alike : LiveAlike entry.first nearer frames
        alike address l = live address l ∙ w.live address (omega (arith, next-blocks.1.begin))

        -- what frames need of it
        pub needed-alike : filter (meets nearer) (block ∷ []) ≡ filter (meets frames) (block ∷ [])
        needed-alike =
            ap (λ (b : Bool). cond b (block ∷ []) [])
            (needed block itself ∙ w.needed block next-blocks.1.begin)

        -- what is asked for, that of the block first, and that of the later ones
        pub asked-split : filter (meets frames) w.gone
            ++ (filter (meets nearer) (block ∷ []) ++ filter (meets frames) (blocks_from blob low next.count next.blocks))
            ≡ filter (meets frames) (blocks_from blob low all.count all.blocks)
        asked-split =
            let later : List Block = blocks_from blob low next.count next.blocks in
            ap (λ (bs : List Block). filter (meets frames) w.gone ++ (bs ++ filter (meets frames) later)) needed-alike
            ∙ ap (λ (bs : List Block). filter (meets frames) w.gone ++ bs) (sym (filter-append (meets frames) (block ∷ []) later))
            ∙ sym (filter-append (meets frames) w.gone (block ∷ later))
            ∙ ap (filter (meets frames)) (ap (λ (bs : List Block). w.gone ++ bs) (sym rest-split) ∙ w.split)

        -- its addresses that frames need, after those of the blocks before it
        module _ (found_before more : List ℕ) (f : IsFound frames blob low w.from all rest holds old found_before)
            (g : AreGathered (HasBlock block) nearer blob entry.first (entry.last + 1) holds now more) where
          starts : AllByRecursion (λ (x : ℕ). entry.first ≤ x) more
          starts = all_from entry.first (entry.last + 1) more g.ascend

          next-told : (holds : Option Content)
              → IfSome holds (λ content. (blob : ℕ) (bytes : List ℕ) → content.blobs blob ≡ Some bytes → AreHeld blob bytes old
              → AreHeld blob bytes now)
              → IfSome holds (λ content. (bytes addresses : List ℕ) → content.blobs blob ≡ Some bytes → AreHeld blob bytes now
              → IsSpelling block addresses (bytes_of block bytes) → filter (is_live nearer) more ≡ filter (is_live nearer) addresses)
              → IfSome holds (λ content. (bytes addresses : List ℕ) → content.blobs blob ≡ Some bytes → AreHeld blob bytes old
              → HasBlocks low all.count all.blocks bytes addresses → IsRest frames low rest bytes addresses found_before)
              → IfSome holds (λ content. (bytes addresses : List ℕ) → content.blobs blob ≡ Some bytes → AreHeld blob bytes old
              → HasBlocks low all.count all.blocks bytes addresses → IsRest frames low next bytes addresses (found_before ++ more))
          next-told None h p t = tt
          next-told (Some content) h p t = λ bytes addresses there held has.
              let r = t bytes addresses there held has in
              let both : HoldsBlock low bytes entry (take BLOCK_LEN r.later) × HoldBlocks low bytes next.blocks (drop BLOCK_LEN r.later) =
              subst (λ (bs : List BlockEntry). HoldBlocks low bytes bs r.later) split r.has.held in
              let here : List ℕ = take BLOCK_LEN r.later in
              let number : count ≡ length here =
              omega (arith, counted, r.has.number, length-take BLOCK_LEN r.later) in
              let spelled : IsSpelling block here (bytes_of block bytes) = spelled-block blob low count entry bytes here number both.0 in
              let same : filter (is_live frames) more ≡ filter (is_live frames) here =
              sym (filter-alike (is_live nearer) (is_live frames) entry.first more alike starts)
              ∙ p bytes here there (h blob bytes there held) spelled
              ∙ filter-alike (is_live nearer) (is_live frames) entry.first here alike
              (all_from entry.first (entry.last + 1) here (spelled_ascend block here (bytes_of block bytes) spelled)) in
              let before_it : List ℕ = filter (is_live frames) found_before in
              record {
                later = drop BLOCK_LEN r.later;
                has = record {
                  number = omega (arith, fewer, r.has.number, length-drop BLOCK_LEN r.later);
                  held = both.1;
                };
                made =
                    ap (λ (l : List ℕ). l ++ filter (is_live frames) (drop BLOCK_LEN r.later))
                    (filter-append (is_live frames) found_before more)
                    ∙ append_assoc before_it (filter (is_live frames) more) (filter (is_live frames) (drop BLOCK_LEN r.later))
                    ∙ ap (λ (l : List ℕ). before_it ++ (l ++ filter (is_live frames) (drop BLOCK_LEN r.later))) same
                    ∙ ap (λ (l : List ℕ). before_it ++ l) (sym (filter-append (is_live frames) here (drop BLOCK_LEN r.later)))
                    ∙ ap (λ (l : List ℕ). before_it ++ filter (is_live frames) l) (take-append-drop BLOCK_LEN r.later)
                    ∙ r.made;
              }

          found-next : IsFound frames blob low (entry.last + 1) all next holds old (found_before ++ more)
          found-next = record {
            ascend =
                ascend-join low entry.first (entry.last + 1) found_before more
                (ascend-higher low w.from entry.first found_before next-blocks.1.begin f.ascend) g.ascend;
            told = next-told holds w.asks.held g.told f.told;
          }

        opened_alike : OpenAlike entry.first nearer frames
        opened_alike = λ after address l.
            opened after address l ∙ w.opened after address (omega (arith, next-blocks.1.begin))

        module _ (Near : List ℕ → X → X → Type 0)
            (joins : (xs ys : List ℕ) (a b c : X) → Gain xs a b → Gain ys b c → Gain (xs ++ ys) a c)
            (nearby : (xs : List ℕ) (a b : X) → LiveAlike entry.first nearer frames → OpenAlike entry.first nearer frames
            → AllByRecursion (λ x. entry.first ≤ x) xs → Near xs a b → Gain xs a b) where
          gained_in_all : (more_found : X)
              → Gains Near (AreGathered (HasBlock block) nearer blob entry.first (entry.last + 1) holds now) found more_found
              → Gains Gain (AreGathered (HasBlock block) nearer blob entry.first (entry.last + 1) holds now) found more_found
          gained_in_all more_found g = record {
            more = g.more;
            gained =
                nearby g.more found more_found alike opened_alike (all_from entry.first (entry.last + 1) g.more g.kind.ascend) g.gained;
            kind = g.kind;
          }

          pub walked-next : (then : Kept) (ranges_then : Option (List ReadRange)) (more_found : X)
              → Asks (filter (meets nearer) (block ∷ [])) holds now then ranges_now ranges_then
              → (AreWanted → Gains Near (AreGathered (HasBlock block) nearer blob entry.first (entry.last + 1) holds now) found more_found)
              → IsWalked Gain AreWanted frames nearer blob low high all next holds old then ranges ranges_then before more_found
          walked-next then ranges_then more_found asks gains = record {
            from = entry.last + 1;
            above = omega (arith, w.above, next-blocks.1.begin, ends-later);
            within = omega (arith, next-blocks.1.end);
            blocks = subst (λ (n : ℕ). AreBlocks (entry.last + 1) high n next.blocks) (sym fewer) next-blocks.2;
            order = order;
            live = λ address l. alike address (omega (arith, ends-later));
            needed = λ other l.
                needed other (omega (arith, ends-later))
                ∙ w.needed other (omega (arith, ends-later, next-blocks.1.begin));
            gone = w.gone ++ block ∷ [];
            split = all-split;
            asks =
                subst (λ (bs : List Block). Asks bs holds old then ranges ranges_then)
                (ap (λ (bs : List Block). filter (meets frames) w.gone ++ bs) needed-alike
                ∙ sym (filter-append (meets frames) w.gone (block ∷ [])))
                (asks-join holds old now then ranges ranges_now ranges_then (filter (meets frames) w.gone)
                (filter (meets nearer) (block ∷ [])) w.asks asks);
            opened = λ after address l. opened_alike after address (omega (arith, ends-later));
            found_of = λ wanted.
                gains-join Gain (IsFound frames blob low w.from all rest holds old)
                (AreGathered (HasBlock block) nearer blob entry.first (entry.last + 1) holds now)
                (IsFound frames blob low (entry.last + 1) all next holds old) before found more_found joins found-next
                (w.found_of wanted) (gained_in_all more_found (gains wanted));
          }

          -- after a block of which nothing was gained
          pub gained-before : (found_now : X) → (AreWanted → Near [] found found_now) → AreWanted
              → (more : List ℕ) × Gain more before found_now
          gained-before found_now none wanted =
              let g = w.found_of wanted in
              (g.more ++ [], joins g.more [] before found found_now g.gained (nearby [] found found_now alike opened_alike tt (none wanted)))
