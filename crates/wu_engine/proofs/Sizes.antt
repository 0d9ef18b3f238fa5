-- The size of the index, by what an engine keeps of a state.
use Rattle.std.proofs.Common.{◌≡◌, ℕ, suc, ◌+◌, List, [], ◌∷◌, length, refl, ap, ap₂, sym, ◌∙◌, arith, length-append}
use Rattle.std.specs.Prelude.{Option, Some, None}
use Rattle.std.proofs.lemmas.List.{length-map}
use Rattle.std.proofs.lemmas.List.Sums.{sum_by-cons}
use Rattle.wu_base.specs.declared.addresses.PartRec.{PartRec}
use Rattle.wu_base.specs.declared.reports.Stat.{Stat}
use Rattle.wu_outside.specs.Content.{Content}
use Rattle.wu_layout.specs.Layouts.{FileEntry, Part, stored_in as postings_in}
use Rattle.wu_layout.specs.Postings.{Posting}
use Rattle.wu_layout.proofs.HomeLemmas.{postings_split}
use Rattle.wu_part.specs.Directories.{PartDirectory}
use Rattle.wu_space.specs.Addresses.{live_total}
use Rattle.wu_space.proofs.Files.{sum_by-map}
use Rattle.wu_parts.specs.Contents.{stored_in, stored_in_parts}
use Rattle.wu_parts.specs.Holdings.{HoldParts}
use Rattle.wu_query.specs.Records.{Records, record_of}
use Rattle.wu_query.specs.States.{State}
use Rattle.wu_engine.specs.declared.engines.Engine.{Engine}
use Rattle.wu_engine.specs.Reports.{stat_of}
use Rattle.wu_engine.specs.Stands.{Stands}

-- so many parts are held, with so many postings
pub record AreCounted (records : List PartRec) (parts : List Part) : Type 0 where
  pub number : length records ≡ length parts
  pub postings : stored_in_parts records ≡ length (postings_in parts)

counted : (content : Content) (records : List PartRec) (directories : List PartDirectory) (parts : List Part)
    → HoldParts content records directories parts → AreCounted records parts
counted content [] [] [] hold = record { number = refl; postings = refl }
counted content [] [] (part ∷ parts) hold = absurd hold
counted content [] (directory ∷ directories) parts hold = absurd hold
counted content (recorded ∷ records) [] parts hold = absurd hold
counted content (recorded ∷ records) (directory ∷ directories) [] hold = absurd hold
counted content (recorded ∷ records) (directory ∷ directories) (part ∷ parts) hold =
    let rest : AreCounted records parts = counted content records directories parts hold.1 in
    record {
      number = ap (λ (n : ℕ). suc n) rest.number;
      postings =
          sum_by-cons (λ (r : PartRec). r.stored) recorded records
          ∙ ap₂ (λ (m n : ℕ). m + n) hold.0.record_of.stored rest.postings
          ∙ sym (length-append part.postings (postings_in parts));
    }

pub stat_told : (engine : Engine) (holds : Option Content) (s : State) (stat : Stat)
    → stat ≡ record {
      files = length engine.files.entries;
      live = live_total engine.space.ranges;
      stored = stored_in engine.parts;
      parts = length engine.parts.parts;
    }
    → Stands engine holds s → stat ≡ stat_of s
stat_told engine None s stat told stands = absurd stands.texts
stat_told engine (Some content) s stat told stands =
    let here : AreCounted engine.parts.parts s.layout.parts =
    counted content engine.parts.parts engine.parts.directories s.layout.parts stands.parts in
    let files : length engine.files.entries ≡ length s.layout.files =
    ap (λ (rs : Records). length rs) stands.index.files
    ∙ length-map s.layout.files (λ (file : ℕ × FileEntry). (file.0, record_of s.texts file)) in
    let live : live_total engine.space.ranges ≡ (stat_of s).live =
    ap live_total stands.index.live ∙ sum_by-map (λ file. file.1.len) (λ (file : ℕ × FileEntry). (file.0, file.1.range)) s.layout.files in
    let stored : stored_in engine.parts ≡ (stat_of s).stored =
    omega (
      arith,
      stands.index.stored,
      here.postings,
      ap (λ (ps : List Posting). length ps) (postings_split s.layout.parts s.layout.memory),
      length-append (postings_in s.layout.parts) s.layout.memory,
    ) in
    told ∙ alike _ _ files live stored here.number
  where
    alike : (a b : Stat) → a.files ≡ b.files → a.live ≡ b.live → a.stored ≡ b.stored → a.parts ≡ b.parts → a ≡ b
    alike a b files live stored parts = λ i. record { files = files i; live = live i; stored = stored i; parts = parts i }
