use Rattle.std.proofs.Common.{◌≡◌, ◌<◌, ◌≤◌, filter, length, take, refl, ap, ◌∙◌, rules}
use Rattle.std.proofs.lemmas.List.{take_all}
use Rattle.wu_base.specs.declared.limits.TheConstants.{ADDRESSES_MAX}
use Rattle.wu_layout.specs.Postings.{is_live}
use Rattle.wu_job.specs.Live.{ranges_alone}
use Rattle.wu_job.proofs.Ranks.{all_same, cut_step}
use Rattle.wu_job.proofs.live.cut_to_live.Goals as goal

pub loop-address-init : goal.loop-address-init
loop-address-init c = record {
  cut = record {
    cut = c.in_ok-cut.ensures.0;
    ranks = rw (c.in_ok-cut.ensures.0, c.in_ok-cut.ensures.1) refl;
    same = all_same c.args.live.now c.args.addresses.now;
  };
  order = c.requires.live.order;
}

pub loop-address-preserved : goal.loop-address-preserved
loop-address-preserved c =
    let within : c.loop-address.address-index < length c.args.addresses.now = search rules in
    record {
      cut =
          cut_step ADDRESSES_MAX c.args.live.now c.loop-address.left.now c.from_address-left.result.now c.args.addresses.now
          c.loop-address.address-index c.loop-address.cut.addresses.items c.loop-address.cut.places.items
          c.put.new.self.addresses.items c.put.new.self.places.items c.place_in.result c.requires.live within c.requires.ascend
          c.loop-address.invariant.cut c.from_address-left.ensures.same c.place_in.ensures c.in_ok-put.ensures.addresses
          c.in_ok-put.ensures.places;
      order = c.from_address-left.ensures.order;
    }

pub returns : goal.returns
returns c =
    let past : length c.args.addresses.now ≤ c.loop-address.address-index = search rules in
    let all : take c.loop-address.address-index c.args.addresses.now ≡ c.args.addresses.now =
    take_all c.loop-address.address-index c.args.addresses.now past in
    record {
      addresses = c.loop-address.invariant.cut.cut ∙ ap (filter (is_live (ranges_alone c.args.live.now))) all;
      places = c.loop-address.invariant.cut.ranks;
    }
