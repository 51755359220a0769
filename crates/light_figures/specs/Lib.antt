-- The figures of a list of lights: voxels, sum, lowest, highest and sixteen bands; and figures joined.
pub mod LightFigures
pub mod FiguresLaws
